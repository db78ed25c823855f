-- The folded catalogue as code: reduced vectors as coordinates, see words led and carried, and the standing entries one after the other.
pub mod Spread
pub mod Printing
pub mod Carrying
pub mod Folding
pub mod Steps
