pub mod HeaderRows
pub mod NameLemmas
pub mod ReadLemmas
