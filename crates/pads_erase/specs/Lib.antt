pub mod Modes
pub mod Erasing
