-- The nearest vector among at most four reduced ones: the rounded solution, and layers of the last of four.
pub mod MeantNear
pub mod LayerLaws
pub mod Turns
pub mod Taking
pub mod Start
pub mod Best
pub mod Descent
pub mod Signs
pub mod Near
