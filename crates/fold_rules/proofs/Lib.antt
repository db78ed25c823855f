-- What is proved about the definitions, on the way and at the end.
pub mod Demand
pub mod Moved
pub mod Laws
