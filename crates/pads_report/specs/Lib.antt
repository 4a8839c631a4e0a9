pub mod Ranks
pub mod Reports
