pub mod AllKept
pub mod Induction
pub mod Lists
pub mod Rolls
pub mod Weights
