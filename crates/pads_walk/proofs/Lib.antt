pub mod Searches
pub mod TakenBack
