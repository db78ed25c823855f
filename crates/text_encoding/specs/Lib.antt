-- The words that a text tells. Encoded defines what `tell` says of it; the rest proves it, a line after the other.
pub mod Encoded
pub mod Stores
pub mod Splits
pub mod Tells
pub mod Counts
