-- The laws of the definitions in specs/.
pub mod NumberFieldsLaws
pub mod LineValuesLaws
pub mod FormLaws
pub mod ToldLaws
pub mod LinesLaws
pub mod ClearLaws
pub mod TextStopsLaws
pub mod TextReadingLaws
pub mod GrammarLaws
pub mod EveryGrammar
pub mod BlockLaws
pub mod TurnLaws
