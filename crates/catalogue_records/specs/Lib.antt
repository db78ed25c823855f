-- What is stored of a catalogue, against the definitions: an entry, the array of entries, and what reading and writing give.
pub mod Stored
pub mod Catalogues
pub mod EntriesIn
pub mod Entries
pub mod Coordinates
pub mod Again
