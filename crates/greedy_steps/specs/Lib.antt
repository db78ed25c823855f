-- The greedy steps on tables: what each does to the rows that the tables belong to, and what keeps every number within 64 bits.
pub mod State
pub mod Products
pub mod Limits
pub mod Fine
pub mod Room
pub mod Pass
pub mod Turn
pub mod Passing
pub mod Tables
pub mod Repeat
