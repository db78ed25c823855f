-- The linear system in floats: only that integers made from floats are bounded.
pub mod Bounds
