-- The checks of an input, refusals 1 to 5, and its basis as an array.
pub mod Any
pub mod First
pub mod Lengths
pub mod Choice
pub mod Choices
pub mod Determinant
pub mod FirstMinor
pub mod Padded
pub mod Shape
pub mod Rows
