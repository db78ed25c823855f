-- What is proved about the definitions.
pub mod Placed
pub mod Word
pub mod Moves
pub mod RoundTrip
pub mod Output
pub mod TooLong
pub mod WellFormed
pub mod EntriesAccepted
pub mod ReadVectors
pub mod ReadEntries
pub mod WrittenSize
pub mod Opening
pub mod ReadBack
pub mod Moving
pub mod TextSize
