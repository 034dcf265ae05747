-- What the weights program prints, in terms of the text that it is given.
pub mod WeightLine
pub mod FieldsWrittenLaws
pub mod ShiftText
pub mod ShiftTextLaws
pub mod WeightsReport
