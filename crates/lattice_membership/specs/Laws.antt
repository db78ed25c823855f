-- What the proofs of the functions use.
pub mod Made
pub mod Accepted
pub mod Members
pub mod Cofactors
pub mod SameSize
