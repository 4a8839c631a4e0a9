pub mod Alike
pub mod PathLoops
pub mod PathDecides
pub mod PathLaws
pub mod Answered
