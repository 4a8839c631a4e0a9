pub mod Sorts
pub mod Expressions
pub mod WellSorted
pub mod Described
pub mod Known
