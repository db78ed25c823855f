-- Fields of a line.
pub mod Blank
