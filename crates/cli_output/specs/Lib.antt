-- The lines of an answer, and how long they may be.
pub mod Rows
pub mod Room
pub mod Sizes
