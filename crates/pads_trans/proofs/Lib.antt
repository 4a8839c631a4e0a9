pub mod Places
pub mod MetRolls
pub mod ExprRolls
mod NameRows
pub mod Firsts
pub mod Kept
pub mod Whole
mod Rows
