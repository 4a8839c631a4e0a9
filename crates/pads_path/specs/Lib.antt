pub mod Names
pub mod Resolving
pub mod Ways
