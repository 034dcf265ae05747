-- The laws of the definitions in specs/.
pub mod StepLaws
pub mod CallLaws
pub mod AgreementLaws
pub mod TakeLaws
pub mod ReadingLaws
