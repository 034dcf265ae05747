-- The plot record: definitions and laws.
pub mod Double
pub mod MeanBounds
pub mod Item
pub mod Plot
pub mod Shown
pub mod DoubleLaws
pub mod MeanBoundsLaws
pub mod ItemLaws
pub mod PlotLaws
