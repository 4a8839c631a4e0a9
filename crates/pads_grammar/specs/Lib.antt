pub mod Kinds
pub mod Grammar
pub mod Laws
pub mod Whole
pub mod Reads
pub mod Lists
