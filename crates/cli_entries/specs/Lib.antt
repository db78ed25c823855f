-- The number that is asked for, and what is said of a line that tells no entry.
pub mod Asked
pub mod Mistakes
