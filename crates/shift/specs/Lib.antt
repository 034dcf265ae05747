pub mod Area
pub mod Shift
pub mod Shifted
pub mod Below
pub mod NeighbourLaws
pub mod DifferenceLaws
