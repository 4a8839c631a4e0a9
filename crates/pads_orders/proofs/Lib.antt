pub mod Folding
pub mod Pieces
pub mod TakenApart
pub mod Values
