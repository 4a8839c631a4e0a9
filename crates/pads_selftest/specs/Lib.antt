pub mod Description
pub mod Left
pub mod Records
