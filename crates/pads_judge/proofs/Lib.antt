pub mod FormLemmas
pub mod LaterLemmas
pub mod ScopeLemmas
