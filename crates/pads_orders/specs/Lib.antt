pub mod MaskTexts
pub mod Masks
pub mod Numbers
pub mod Options
pub mod Orders
pub mod Questions
