-- What the exported functions mean.
pub mod ListCall
pub mod TableCall
pub mod TableCallLaws
pub mod BracketCall
pub mod BracketCallLaws
pub mod MonitorCall
pub mod MonitorCallLaws
pub mod BatchCall
pub mod BatchCallLaws
pub mod PlotCall
pub mod PlotCallLaws
pub mod ReportCall
pub mod ShiftCall
pub mod ShiftCallLaws
pub mod ReportCallLaws
