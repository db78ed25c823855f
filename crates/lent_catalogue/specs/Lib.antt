-- Of what size the answers are, so that they can be written as numbers.
pub mod Places
pub mod CatalogueShape
