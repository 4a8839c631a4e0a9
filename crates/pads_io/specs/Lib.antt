-- The meanings that this crate's contracts cite.
pub mod Calls
pub mod Faults
pub mod Transfer
pub mod InMemory
pub mod Named
