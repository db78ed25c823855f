-- Text as bytes: where it is put, and numbers in decimal.
pub mod Counts
pub mod Puts
pub mod Joined
pub mod Within
pub mod Digits
