-- The search for the nearest vector among at most three reduced ones.
pub mod Meant
pub mod Numbers
pub mod Link
pub mod Steps
pub mod Coefficients
pub mod Moves
pub mod Positive
pub mod State
pub mod End
pub mod Since
pub mod Pairs
pub mod Places
pub mod PairFits
pub mod Stepped
pub mod Multiples
pub mod Searchable
pub mod Formed
