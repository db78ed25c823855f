-- Writing as code: words over bytes, the words of an entry and of the first entries, and the end word.
pub mod Over
pub mod Puts
pub mod Loads
pub mod Upto
pub mod Writing
