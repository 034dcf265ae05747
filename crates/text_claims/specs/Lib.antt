-- What the claims of the programs share: definitions and laws.
pub mod NumberOnceLaws
pub mod LineOnceLaws
pub mod NumbersApartLaws
