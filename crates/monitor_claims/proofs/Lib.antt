-- The laws of the definitions in specs/.
pub mod MonitorBytesLaws
pub mod MonitorBytes
pub mod MonitorProgramLaws
pub mod MonitorProgram
pub mod MonitorPrintedOnceLaws
pub mod MonitorPrintedOnce
pub mod NodeLinesLaws
pub mod NodeBytesLaws
pub mod IsolationLaws
pub mod Isolation
pub mod OneNodeLaws
pub mod OneNode
pub mod PeriodsLaws
pub mod Periods
pub mod MonitorNumbersLaws
pub mod MonitorNumbers
