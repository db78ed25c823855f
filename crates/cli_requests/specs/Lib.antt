-- The lines of a stream: what is kept of one is answered as the whole.
pub mod Kept
