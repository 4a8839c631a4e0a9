pub mod Clean
pub mod JoinedWords
-- The lemmas of this crate.
pub mod AnswerLaws
pub mod Described
