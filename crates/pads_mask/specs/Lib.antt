pub mod Masks
pub mod Unguarded
