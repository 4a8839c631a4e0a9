pub mod Expansion
pub mod Pending
pub mod Plans
pub mod Ways
