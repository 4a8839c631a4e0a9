pub mod Strings
pub mod Classes
pub mod Addresses
pub mod Enums
pub mod Binaries
pub mod Seen
