-- The text of each answer.
pub mod Answers
pub mod Room
