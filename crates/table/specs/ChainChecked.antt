-- What the checks of a chain leave for the table: its number of states, and their moves. Working definitions.
use Rattle.std.specs.Prelude.{ℕ, ◌≡◌, List, Err, Ok, Result}
use Rattle.rules.specs.declared.refusal.Refusal.{Refusal}
use Rattle.rules.specs.declared.RuleList.{RuleList}
use Rattle.rules.specs.Check.{active_rules}
use Rattle.table.specs.Table.{chain_check}
use Rattle.chain.specs.HeldMoves.{HoldsMoves}

-- the refusal; or the number of states, with their moves in the list
abbrev pub ChainChecked : RuleList → List ℕ → ℕ → List ℕ → Result ℕ Refusal → Type 0
ChainChecked l w h m (Ok n) = (chain_check l w h ≡ Ok tt) × HoldsMoves (active_rules l) n m
ChainChecked l w h m (Err x) = chain_check l w h ≡ Err x
