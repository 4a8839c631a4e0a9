pub mod CodePageLemmas
pub mod TextLemmas
pub mod RunLemmas
pub mod NumeralLemmas
