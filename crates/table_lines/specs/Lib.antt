-- The table program's lines: definitions and laws.
pub mod RowLine
pub mod RowsWritten
pub mod RowLineLaws
pub mod PercentLine
pub mod PercentLineLaws
pub mod LargestHorizon
pub mod TableLines
