pub mod CodePage
pub mod Numerals
