-- Codes and rule lists as callers pass them: definitions.
pub mod Codes
