-- Minors of vectors of a lattice: as many vectors as it has generators generate it exactly when a minor has the same size.
pub mod Combinations
pub mod Solved
pub mod SameLattice
