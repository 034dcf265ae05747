-- What the table program prints, from bytes to bytes: definitions, laws, claims.
pub mod TableTexts
pub mod TableOutput
pub mod TableLinesLaws
