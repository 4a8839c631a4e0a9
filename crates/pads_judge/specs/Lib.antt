pub mod Judgements
pub mod Scopes
