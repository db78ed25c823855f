-- What the reduction of an accepted input leaves, as a lattice holds it.
pub mod Left
