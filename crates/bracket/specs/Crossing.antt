-- The search for a bound: what it asks of the list, what it looks for, and what holds on its way. Working definitions.
use Rattle.std.specs.Prelude.{ℕ, ◌+◌, ◌*◌, ◌≤◌, ◌≡◌, Bool, List, leb, length, None}
use Rattle.runlength.specs.Percentile.{least}
use Rattle.runlength.specs.Scale.{max_horizon, units_per_one}
use Rattle.runlength.specs.Chain.{cdf_of}

-- a list that is not refused by 12 or 15
pub record Summable (pmf : List ℕ) : Type 0 where
  pub short : length pmf ≤ max_horizon
  pub total : cdf_of pmf (length pmf) ≤ units_per_one

-- the first n chances, with the slack added for each, sum to the goal or more
unfoldable pub reach_test : List ℕ → ℕ → ℕ → ℕ → Bool
reach_test pmf slack goal n = leb goal (cdf_of pmf n + n * slack)

-- what holds after n chances, none of which reached the goal
pub record Searched (pmf : List ℕ) (slack goal sum n : ℕ) : Type 0 where
  pub upto : n ≤ length pmf
  pub summed : sum ≡ cdf_of pmf n + n * slack
  pub none_yet : least (reach_test pmf slack goal) n ≡ None
