-- The definitions and laws of a row.
pub mod Arrivals
pub mod ArrivalsLaws
pub mod Ranges
pub mod RangeLaws
pub mod OneRow
