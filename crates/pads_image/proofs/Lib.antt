pub mod Bounded
pub mod Crossing
pub mod KeptReadings
pub mod Layouts
pub mod Lengths
pub mod Needs
pub mod Rows
pub mod Tables
