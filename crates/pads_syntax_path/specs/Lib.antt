pub mod Indexes
pub mod Paths
pub mod Trees
pub mod Answers
