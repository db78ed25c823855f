-- What the services hand back.
pub mod Finding
pub mod Outcome
pub mod Moving
pub mod Separating
