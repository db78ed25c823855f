-- The lines of a stream: the definition in Lines, laws in the others.
pub mod Lines
pub mod Kept
pub mod Moved
