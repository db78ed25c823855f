-- The open merge: definitions, examples, what they mean, and their laws.
pub mod Addition
pub mod Merge
pub mod Examples
pub mod Meaning
