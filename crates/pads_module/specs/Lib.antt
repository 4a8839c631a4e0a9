pub mod Bound
pub mod Counts
pub mod Modules
pub mod Scopes
pub mod Straight
