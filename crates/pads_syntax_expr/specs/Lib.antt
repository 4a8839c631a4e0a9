pub mod Leaves
pub mod Expressions
