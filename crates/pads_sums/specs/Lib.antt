pub mod Nodes
pub mod Samples
pub mod Adding
pub mod Distinct
pub mod Merging
pub mod Seen
pub mod Sums
