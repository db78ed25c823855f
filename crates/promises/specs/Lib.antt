-- Demand 3 whole, for every service.
pub mod Demand
