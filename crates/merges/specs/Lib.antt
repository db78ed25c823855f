-- What is kept of a merge, against the definitions.
pub mod Stored
pub mod IsMerge
pub mod Rows
pub mod Entries
pub mod Filed
pub mod Looking
pub mod Growing
pub mod Starting
pub mod Found
pub mod Grown
pub mod Closing
pub mod Added
