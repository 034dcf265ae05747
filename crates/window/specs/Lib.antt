-- The windows of the rules, the state of a chart and the plain chart: definitions and laws.
pub mod Window
pub mod WindowLaws
pub mod State
pub mod Settled
pub mod ForgetLaws
pub mod StateLaws
pub mod SettledLaws
pub mod CanStand
pub mod ReferenceChart
pub mod MoveLaws
pub mod RowState
