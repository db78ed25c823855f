-- The Gram matrix of the vectors through the greedy steps.
pub mod Order
pub mod Gram
pub mod Tied
pub mod ByRow
pub mod Columns
pub mod Fits
pub mod Lose
pub mod Cross
pub mod Passed
pub mod Formed
pub mod Work
