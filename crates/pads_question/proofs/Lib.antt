mod LevelRolls
mod Rows
mod Scopes
pub mod JoinedWords
pub mod Moved
pub mod OneAnswer
