pub mod RangeLemmas
pub mod ReadingLemmas
pub mod SpellingLemmas
pub mod TextLemmas
pub mod CanonicalLemmas
pub mod LawLemmas
