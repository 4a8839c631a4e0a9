pub mod InBodies
pub mod Repeats
pub mod OptionKinds
pub mod AtDeclaration
pub mod InDescription
