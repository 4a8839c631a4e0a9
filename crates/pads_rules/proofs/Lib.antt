pub mod PartLaws
pub mod SmallExpressions
mod ExpressionRows
mod RuleNumbers
pub mod Least
pub mod Judgements
pub mod Rows
pub mod SameTexts
pub mod Faultless
