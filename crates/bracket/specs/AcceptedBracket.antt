-- The calls that no refusal applies to. Working definition.
use Rattle.std.specs.Prelude.{ℕ, ◌≤◌, List, length}
use Rattle.rules.specs.Bounds.{max_states}
use Rattle.runlength.specs.Scale.{min_horizon, max_horizon, units_per_one}
use Rattle.bracket.specs.Limits.{min_states, min_percent, max_percent}
use Rattle.runlength.specs.Chain.{cdf_of}

-- none of 12 to 15 applies
pub record AcceptedBracket (pmf : List ℕ) (count p : ℕ) : Type 0 where
  pub not_empty : min_horizon ≤ length pmf
  pub short : length pmf ≤ max_horizon
  pub some_states : min_states ≤ count
  pub few_states : count ≤ max_states
  pub some_percent : min_percent ≤ p
  pub part_percent : p ≤ max_percent
  pub total : cdf_of pmf (length pmf) ≤ units_per_one
