-- The table operation: definitions and laws.
pub mod Table
pub mod ChainChecked
pub mod AcceptedTable
