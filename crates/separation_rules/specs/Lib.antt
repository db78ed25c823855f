-- What separates two entries: what a reader must believe (Separation), what it promises in plain mathematics (Meaning), examples by computation,
-- and Demand, where the promise is proved. Laws: what is proved on the way.
pub mod Separation
pub mod Meaning
pub mod Examples
