-- What is kept of an input that is too long.
pub mod Kept
