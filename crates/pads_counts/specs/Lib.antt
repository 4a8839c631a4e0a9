pub mod Met
pub mod Counted
