pub mod Numbers
pub mod Chains
pub mod Trees
pub mod NameTokens
