-- What the monitor program prints, from bytes to bytes: definitions, laws, claims.
pub mod MonitorTexts
pub mod MonitorOutput
pub mod MonitorLinesLaws
pub mod NodeLines
