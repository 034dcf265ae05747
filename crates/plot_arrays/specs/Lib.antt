-- The plot record as two arrays: definitions.
pub mod PlotArrays
