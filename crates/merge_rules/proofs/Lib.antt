-- What is proved about the definitions, on the way and at the end.
pub mod Laws
pub mod Demand
