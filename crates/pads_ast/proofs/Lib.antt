pub mod ExprNames
pub mod SameTrees
