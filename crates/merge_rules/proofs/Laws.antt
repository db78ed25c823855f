-- Laws of the open merge.
pub mod Adding
pub mod Placing
pub mod Kept
pub mod Aside
pub mod File
