-- The chain of a rule list, by name and by state: definitions and laws.
pub mod TableChain
pub mod ByState
pub mod TableChainLaws
pub mod FuturesLaws
pub mod PrefixLaws
pub mod HeldMoves
pub mod ChainMade
pub mod KeepsMoves
pub mod HeldMovesLaws
