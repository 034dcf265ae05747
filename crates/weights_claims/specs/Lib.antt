-- What the weights program prints, from bytes to bytes: definitions, laws, claims.
pub mod WeightsLineLaws
pub mod WeightsLine
pub mod WeightsTexts
pub mod WeightsBytesLaws
pub mod WeightsBytes
pub mod WeightsProgramLaws
pub mod WeightsProgram
pub mod WeightsNumbersLaws
pub mod WeightsNumbers
pub mod WeightsTakenLaws
pub mod WeightsTaken
