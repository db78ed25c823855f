-- What a reader must believe: document 01's terms as definitions that compute, then its known results as one theorem. Laws: what is proved
-- about them.
pub mod Vector
pub mod Volume
pub mod Nearest
pub mod Greedy
pub mod Refusal
pub mod Answer
pub mod KnownResults
pub mod Laws
