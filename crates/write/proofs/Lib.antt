pub mod FieldLaws
pub mod PrintedLaws
