pub mod Steps
pub mod PieceLemmas
pub mod LaterTypes
pub mod MetNames
pub mod ConstLemmas
