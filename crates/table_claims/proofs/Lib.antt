-- The laws of the definitions in specs/.
pub mod TableBytesLaws
pub mod TableBytes
pub mod RefusalLaws
pub mod ChainFiguresLaws
pub mod TableProgramLaws
pub mod TableProgram
pub mod TablePrintedOnceLaws
pub mod TablePrintedOnce
pub mod TableNumbersLaws
pub mod TableNumbers
