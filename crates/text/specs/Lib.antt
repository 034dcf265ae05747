-- What the parser gives of a line and of a run of lines: definitions and laws.
pub mod LineRead
pub mod LineReadLaws
pub mod Run
pub mod RunLaws
