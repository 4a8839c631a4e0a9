pub mod LevelLaws
pub mod ExprDecides
