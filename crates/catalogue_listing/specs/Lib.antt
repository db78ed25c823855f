-- The listing as the code writes it: fields, entries one after another, how many stand, and what `list` hands back.
pub mod Lines
pub mod Counts
pub mod Entries
pub mod Listed
