-- Requests as text: numbers, tokens, parts and counts, and the laws by which they are read from left to right.
pub mod Numbers
pub mod NumberLaws
pub mod Tokens
pub mod TokenLaws
pub mod Parts
pub mod PartLaws
pub mod Counts
pub mod Examples
