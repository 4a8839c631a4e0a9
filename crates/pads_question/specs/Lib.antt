pub mod Filters
pub mod Levels
pub mod LevelScopes
pub mod FaultLines
pub mod Questions
