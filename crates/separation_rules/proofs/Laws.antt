-- What is proved about the definitions.
pub mod Outside
pub mod Deciding
pub mod Separating
pub mod Once
pub mod Numbers
