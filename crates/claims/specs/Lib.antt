-- The claims: demands 1, 2 and 3, the centre line, the plot record, and the marked examples, with the definitions that they speak of.
pub mod Exact
pub mod Named
pub mod Counted
pub mod ByRow
pub mod ByStateLaws
pub mod Centre
pub mod InsideLaws
pub mod ShiftedCoreLaws
pub mod ShiftedCore
pub mod Examples
pub mod Plotted
