-- What is proved about the definitions.
pub mod First
pub mod Standing
pub mod Lookup
pub mod See
pub mod Fixed
pub mod SameLattice
pub mod FoldedForm
pub mod Printing
pub mod Again
pub mod Deciding
pub mod Adding
pub mod Searching
pub mod Alike
pub mod ListingSize
