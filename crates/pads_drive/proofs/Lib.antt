-- The lemmas of this crate.
pub mod Ahead
pub mod Behind
pub mod Blame
pub mod Chunks
pub mod Driven
pub mod Growing
pub mod Halting
pub mod HandedOut
pub mod Outputs
pub mod Progress
pub mod ReadSteps
pub mod Refilling
pub mod Sharing
pub mod Small
pub mod Waiting
