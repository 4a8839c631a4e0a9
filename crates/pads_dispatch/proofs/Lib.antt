pub mod BaseLaws
pub mod Classes
pub mod Lifts
pub mod Takes
pub mod Values
