-- What is written into a lent buffer, and what a program prints: definitions and laws.
pub mod Wrote
pub mod WroteLaws
pub mod Writes
pub mod WritesLaws
pub mod PartsWritten
pub mod PartsWrittenLaws
pub mod NumberRoom
pub mod Field
pub mod Refused
pub mod Printed
pub mod AnswerStands
