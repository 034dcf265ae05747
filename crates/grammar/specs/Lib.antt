-- What a text is, for every program: definitions, laws, claims.
pub mod Size
pub mod Newlines
pub mod NewlineLaws
pub mod LineValues
pub mod NumberFields
pub mod Form
pub mod FewestBytes
pub mod Grammar
pub mod Clear
pub mod Blocks
pub mod Read
pub mod TextReading
pub mod Told
