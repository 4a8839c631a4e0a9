pub mod Told
pub mod ConstSets
