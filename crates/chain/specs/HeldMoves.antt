-- A list that begins with the moves of the chain. A working definition.
use Rattle.std.specs.Prelude.{ℕ, ◌*◌, ◌≤◌, ◌<◌, ◌≡◌, List, length}
use Rattle.rules.specs.declared.Rule.{Rule}
use Rattle.rules.specs.Bounds.{zone_count, max_states}
use Rattle.runlength.specs.Sum.{at}
use Rattle.chain.specs.TableChain.{state_count, chain_moves}

-- n is the chain's number of states, those that differ, and the list begins with their moves
pub record HoldsMoves (rs : List Rule) (n : ℕ) (m : List ℕ) : Type 0 where
  pub count : n ≡ state_count rs
  pub few : n ≤ max_states
  pub room : zone_count * n ≤ length m
  pub same : (k : ℕ) → k < zone_count * n → at m k ≡ at (chain_moves rs) k
