-- What the code finds of two entries, against the definition.
pub mod Outsides
