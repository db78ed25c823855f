-- The engine. To be believed: its results in the words of their definitions. Laws: its steps on the work as definitions, and what keeps
-- every number within 64 bits.
pub mod Answers
pub mod Laws
