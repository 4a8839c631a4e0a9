pub mod MetLaws
pub mod ExprLaws
pub mod CountLaws
