-- The answers as runs of numbers, and what a lent run of numbers holds after they are written there.
pub mod Layout
pub mod Runs
pub mod Small
