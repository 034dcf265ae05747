-- The monitor program's lines: definitions.
pub mod MonitorLines
