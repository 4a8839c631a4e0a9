pub mod Filled
pub mod Kinds
pub mod Readings
pub mod Spellings
pub mod Texts
