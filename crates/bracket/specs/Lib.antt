pub mod Limits
pub mod Bracket
pub mod Contains
pub mod AcceptedBracket
pub mod Crossing
pub mod TotalLaws
pub mod QuotientLaws
