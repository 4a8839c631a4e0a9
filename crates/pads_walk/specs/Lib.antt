pub mod Reads
pub mod Literals
pub mod Fields
