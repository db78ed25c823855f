-- The solution of a target's linear system: what a reader must believe, what is proved about it, and what an answer promises.
pub mod Solution
pub mod Laws
pub mod Promise
