-- What is proved about the definitions.
pub mod Vector
pub mod Permutation
pub mod Refusal
pub mod Answer
