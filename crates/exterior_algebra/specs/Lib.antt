-- Exterior algebra by halves: volume, Hadamard's inequality, Cramer's rule, the test for dependence, sizes of coefficients.
pub mod Forms
pub mod Exterior
pub mod Hadamard
pub mod Cramer
pub mod Dependence
pub mod Sizes
pub mod Examples
pub mod Minors
