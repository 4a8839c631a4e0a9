pub mod Names
pub mod Met
pub mod Expressions
pub mod Terms
pub mod Modules
