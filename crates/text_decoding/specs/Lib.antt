-- The text of a catalogue in the parts that the code puts, and how long it is.
pub mod Parts
pub mod Size
