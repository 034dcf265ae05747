-- What the monitor program prints, in terms of the text that it is given.
pub mod Points
pub mod Nodes
pub mod NodesLaws
pub mod TotalsWrittenLaws
pub mod BenchWritten
pub mod PointsLaws
pub mod MonitorReport
