pub mod Order
pub mod Points
pub mod Rows
