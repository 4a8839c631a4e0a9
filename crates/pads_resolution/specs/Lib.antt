pub mod Numbers
pub mod Scopes
pub mod Expressions
pub mod Chains
pub mod Types
pub mod Bodies
pub mod Resolution
pub mod JudgedNames
