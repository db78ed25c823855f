-- The fold of a catalogue: what a reader must believe (Fold, Services, Listing), what it promises in plain mathematics (Meaning), examples by
-- computation, and Demand, where the promise is proved. Laws: what is proved on the way, and what the code uses.
pub mod Fold
pub mod Services
pub mod Listing
pub mod Meaning
pub mod Examples
