-- The definitions and laws of the rows.
pub mod Rows
pub mod Running
pub mod RunningLaws
