pub mod Printing
pub mod ReadBack
pub mod Reads
pub mod Same
pub mod Writes
