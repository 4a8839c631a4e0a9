pub mod Borrowed
pub mod Places
