pub mod Answering
pub mod ReadingBack
pub mod SameValues
pub mod Writing
