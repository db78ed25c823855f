-- Rows of numbers: what the engine's vectors and tables are made of.
pub mod RowStructs
pub mod Rows
pub mod Dot
pub mod Front
pub mod Minus
pub mod Loss
