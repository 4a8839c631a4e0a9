pub mod Forms
pub mod Shapes
pub mod Slots
pub mod Steps
pub mod Terms
