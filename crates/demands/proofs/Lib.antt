-- The laws of the definitions in specs/.
pub mod OrderLaws
pub mod AnswerOrderLaws
pub mod TextOrderLaws
pub mod Demands
