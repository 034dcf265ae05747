-- The table program's text: definitions and laws.
pub mod TableGrammar
pub mod ReadTable
pub mod TableText
pub mod TableTextLaws
