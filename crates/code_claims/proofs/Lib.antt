-- The laws of the definitions in specs/.
pub mod CodedLaws
pub mod ExportedLaws
pub mod Exported
