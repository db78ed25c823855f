-- What is read of a line: Stops, Told and Lengths define it; the rest proves that it is what the rules of text say.
pub mod Stops
pub mod Told
pub mod Lengths
pub mod Fields
pub mod Begins
pub mod Parts
pub mod ToldLaws
