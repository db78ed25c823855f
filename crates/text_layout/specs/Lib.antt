-- How text is laid out. Definitions: Fields.
pub mod Fields
pub mod Sizes
