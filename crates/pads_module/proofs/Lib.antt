pub mod CountRolls
pub mod ExprRolls
pub mod KeptReadings
pub mod ScopeRolls
pub mod SkeletonRolls
pub mod StraightRolls
pub mod TermRolls
