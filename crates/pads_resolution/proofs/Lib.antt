pub mod SortLaws
pub mod ScopeLaws
pub mod Forms
pub mod Rows
pub mod JudgedNames
