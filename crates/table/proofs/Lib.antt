-- The laws of the definitions in specs/.
pub mod ChainCheckLaws
pub mod ChainCheckedLaws
pub mod TableLaws
pub mod AcceptedTableLaws
