pub mod WalkLemmas
pub mod BodyLemmas
pub mod NameLists
pub mod RepeatSteps
pub mod MetOptionKinds
pub mod DeclarationLemmas
pub mod DescriptionLaws
