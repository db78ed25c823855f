-- What is proved about the definitions.
pub mod Values
pub mod ValueLaws
pub mod Rounding
pub mod Snoc
pub mod ReducedLaws
pub mod Digits
pub mod Grid
pub mod Descent
pub mod Pairs
pub mod Table
pub mod Layers
pub mod NearestLaws
pub mod NearestRest
pub mod Minima
pub mod Invariants
pub mod Members
pub mod Solving
