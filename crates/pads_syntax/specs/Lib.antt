pub mod Switches
pub mod Declarations
pub mod Trees
pub mod Answers
