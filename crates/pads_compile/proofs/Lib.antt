pub mod Appended
pub mod ArrayCode
pub mod Codes
pub mod Rows
pub mod Stands
pub mod Sums
pub mod Weights
