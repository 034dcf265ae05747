-- Answers in the arrays that a caller lends: definitions and laws.
pub mod StepArrays
pub mod BatchArrays
pub mod BatchCodeLaws
pub mod BracketArrays
pub mod ReportArrays
pub mod ReportCodeLaws
