-- The solution of a linear system in tenths: what is asked, and what the steps keep.
pub mod Rest
pub mod Tests
pub mod Taken
pub mod Rounding
