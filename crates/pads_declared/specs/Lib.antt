pub mod Leads
pub mod Meanings
pub mod Numbered
