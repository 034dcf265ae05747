-- TO BELIEVE: the states that a chart has and those that it needs. Definitions.
use Rattle.std.specs.Prelude.{ℕ, ◌<◌, ◌≡◌}
use mathlib.Core.List.{List, Memᴰ}
use Rattle.runlength.specs.Automaton.{Automaton, quiet}

module _ {A : Type 0} (a : Automaton A) where
  -- the list holds the chart's start, and all that quiet moves lead to from what it holds
  pub record HoldsStates (xs : List A) : Type 0 where
    pub has_start : Memᴰ a.start xs
    pub has_next : (s : A) → Memᴰ s xs → (z : ℕ) → z < a.zones → (t : A) → a.move s z ≡ quiet t → Memᴰ t xs

  -- quiet moves lead from the start to the state: it has every property that the start has and that quiet moves keep
  pub record CanBeReached (s : A) : Type 1 where
    pub by : (P : A → Type 0) → P a.start → ((r t : A) (z : ℕ) → P r → z < a.zones → a.move r z ≡ quiet t → P t) → P s
