pub mod Idling
pub mod Scanning
pub mod Seeking
pub mod Valued
pub mod Walking
