-- The laws of the definitions in specs/.
pub mod AreaLaws
pub mod NormalArea
pub mod BelowLaws
pub mod ShiftLaws
pub mod ShiftedWeights
