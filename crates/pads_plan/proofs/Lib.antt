pub mod Calls
pub mod Pushes
pub mod Rolls
pub mod Rows
pub mod Whole
