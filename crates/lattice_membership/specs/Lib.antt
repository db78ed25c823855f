-- Membership by Cramer's rule on a lattice that is made once for a reduced basis.
pub mod Cofactor
pub mod Nonzero
pub mod Known
pub mod Laws
