-- What is proved about the definitions.
pub mod Begin
pub mod Finish
pub mod Few
pub mod Over
pub mod Answer
pub mod Tenths
pub mod Nearest
pub mod Membership
pub mod Members
