-- Stretches of states with one group each. Working definitions, and what the code that lists their ends asks and leaves.
use Rattle.std.specs.Prelude.{◌≡◌, List, ℕ, ◌+◌, ◌≤◌, ◌<◌, length, get_or}
use Rattle.rules.specs.Bounds.{max_states}

pub record StopOf (first end t after r : ℕ) : Type 0 where
  pub one : first + 1 ≡ end → r ≡ after
  pub other : (first + 1 ≡ end → ⊥) → r ≡ t

pub record CanListStops (gs : List ℕ) (n : ℕ) (st : List ℕ) : Type 0 where
  pub most : n ≤ max_states
  pub groups : n < length gs
  pub room : n < length st

-- from each t from b to n, the states to before the t-th of the stops have one group each
pub record Stops (gs : List ℕ) (n b : ℕ) (st : List ℕ) : Type 0 where
  pub room : n < length st
  pub least : (t : ℕ) → b ≤ t → t ≤ n → t ≤ get_or st t 0
  pub most : (t : ℕ) → b ≤ t → t ≤ n → get_or st t 0 ≤ n
  pub one : (t k : ℕ) → b ≤ t → t ≤ k → k < get_or st t 0 → t ≤ n → get_or gs (k + 1) 0 ≡ get_or gs k 0 + 1
