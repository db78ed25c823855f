-- The numbers that a search for the nearest vector works on.
pub mod Numbers
pub mod Left
