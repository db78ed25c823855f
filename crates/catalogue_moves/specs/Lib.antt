-- The moves as code: what is found of numbers that are too large, and stored entries with their heads in a form.
pub mod Moved
