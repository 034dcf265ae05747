-- The merged states: definitions and laws.
pub mod Merge
pub mod MergeLaws
pub mod Rounds
pub mod RoundsLaws
pub mod AgreeLaws
pub mod Distance
pub mod DistanceLaws
pub mod Numbering
pub mod NumberingLaws
pub mod Lists
pub mod ListsLaws
pub mod OwnMovesLaws
