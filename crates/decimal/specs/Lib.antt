-- Words and numbers of a text: definitions and laws.
pub mod Decimal
pub mod DecimalLaws
pub mod Spans
pub mod SpansLaws
pub mod Word
pub mod WordLaws
pub mod Number
pub mod Signed
pub mod Fields
pub mod NumberLaws
pub mod ReadBackLaws
pub mod SignedLaws
pub mod FieldsLaws
pub mod OnLaws
