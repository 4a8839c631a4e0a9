pub mod Lists
pub mod DigitLemmas
pub mod Good
pub mod ReadingLemmas
pub mod SpellingLemmas
pub mod PackedLaws
pub mod ZonedLaws
mod Rows
