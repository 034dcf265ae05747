-- The monitor program's text: definitions and laws.
pub mod Readings
pub mod ReadingsLaws
pub mod MonitorGrammar
pub mod ReadMonitor
pub mod MonitorText
pub mod PointLineLaws
pub mod MonitorTextLaws
pub mod AcceptedLaws
