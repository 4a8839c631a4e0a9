pub mod Digits
pub mod HalfBytes
pub mod Numbers
pub mod Packed
pub mod Signs
pub mod Zoned
