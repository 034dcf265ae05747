-- What exploring and merging answer. A working definition.
use Rattle.std.specs.Prelude.{ℕ, ◌≤◌, ◌<◌, ◌≡◌, List, Err, Ok, Result}
use Rattle.rules.specs.declared.refusal.Refusal.{Refusal}
use Rattle.rules.specs.declared.Rule.{Rule}
use Rattle.rules.specs.Bounds.{max_states}
use Rattle.rules.specs.Refusal.{too_many_states}
use Rattle.chain.specs.TableChain.{explored_count}
use Rattle.chain.specs.HeldMoves.{HoldsMoves}

-- 10, where there are too many before merging; or the number of states that differ, with their moves in the list
abbrev pub ChainMade : List Rule → List ℕ → Result ℕ Refusal → Type 0
ChainMade rs m (Ok n) = (explored_count rs ≤ max_states) × HoldsMoves rs n m
ChainMade rs m (Err x) = (max_states < explored_count rs) × (x ≡ (too_many_states 0))
