-- The laws of the definitions in specs/.
pub mod ValidLaws
pub mod RowLaws
pub mod GivenLaws
