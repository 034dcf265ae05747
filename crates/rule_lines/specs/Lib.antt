-- The rules of a text: definitions and laws.
pub mod Rules
pub mod RulesLaws
pub mod RuleTurnLaws
