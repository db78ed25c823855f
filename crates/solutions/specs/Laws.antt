-- What is proved about the definitions.
pub mod Projection
pub mod Settled
pub mod Tenths
