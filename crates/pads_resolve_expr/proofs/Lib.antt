pub mod PartLemmas
pub mod ScopeLemmas
