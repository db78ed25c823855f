-- Reduced lists. To be believed: Reduced, Member. Laws: least values, interpolation and rounding, successive minima, the nearest vector.
pub mod Reduced
pub mod Member
pub mod Laws
