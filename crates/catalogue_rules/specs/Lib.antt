-- The file format of a catalogue: what a reader must believe, and examples by computation. Laws: what holds of accepted and of written
-- catalogues.
pub mod Word
pub mod Catalogue
pub mod Read
pub mod Write
pub mod Output
pub mod Form
pub mod Moving
pub mod Examples
