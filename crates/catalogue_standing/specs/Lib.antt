-- What is kept of the entries, and the closed list: which two are of one lattice, and the places of standing entries.
pub mod ReducedEntry
pub mod Places
pub mod SameLattice
pub mod Numbers
pub mod FirstPlaces
pub mod Standing
pub mod OneEntry
pub mod ReducedEntries
pub mod Standers
pub mod Looking
pub mod BothTests
