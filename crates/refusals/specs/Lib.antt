-- The refusals of document 01 with their numbers.
pub mod Number
