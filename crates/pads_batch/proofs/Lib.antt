-- The lemmas of this crate.
mod Counted
mod Merging
mod Rows
mod Sums
mod There
mod Wholes
