pub mod Faults
pub mod Lines
pub mod Members
pub mod NodeLines
pub mod Numbers
pub mod Places
pub mod Texts
pub mod Values
