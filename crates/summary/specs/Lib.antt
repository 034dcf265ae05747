-- The summary of a table: definitions and laws.
pub mod Summary
pub mod ErrorBoundLaws
pub mod AcceptedSummary
