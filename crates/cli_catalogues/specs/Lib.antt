-- The number that is asked for; a text that is written and read again.
pub mod Asked
pub mod Back
