-- TO BELIEVE: document 01's round-down steps by STATE, over the states that differ, whatever number each of them has. Definitions.
use Rattle.std.specs.Prelude.{ℕ, zero, suc, ◌*◌, ◌/◌, Bool, List, eqb, length}
use Rattle.rules.specs.declared.Rule.{Rule}
use Rattle.rules.specs.Bounds.{zone_count}
use Rattle.runlength.specs.Scale.{weight_total, units_per_one}
use Rattle.runlength.specs.Sum.{at, sum, only}
use Rattle.runlength.specs.Automaton.{after}
use Rattle.runlength.specs.Lowest.{lowest}
use Rattle.runlength.specs.Apart.{alike_for}
use Rattle.states.specs.States.{states}
use Rattle.states.specs.Automata.{state_automaton}

module _ (rs : List Rule) where
  -- no continuation, of up to as many points as states are met, tells the two states apart
  unfoldable pub alike_states : ℕ → ℕ → Bool
  alike_states s t = alike_for (state_automaton rs) (length (states (state_automaton rs))) s t

  -- the state at the index i of the list of the states met is not alike to any before it
  unfoldable pub first_of_its_kind : ℕ → Bool
  first_of_its_kind i = eqb (lowest (λ j. alike_states (at (states (state_automaton rs)) j) (at (states (state_automaton rs)) i)) i) i

  -- the sum over the states that differ: of those that are alike the first in the list
  unfoldable pub over_states : (ℕ → ℕ) → ℕ
  over_states f = sum (length (states (state_automaton rs))) (λ i. only (first_of_its_kind i) (f (at (states (state_automaton rs)) i)))

  module _ (weights : List ℕ) where
    -- what reaches the state t in one point: over each state and zone that leads with no signal to a state alike to t, units × weight
    unfoldable pub state_inflow : (ℕ → ℕ) → ℕ → ℕ
    state_inflow units t =
        over_states (λ s. sum zone_count (λ z.
        after ((state_automaton rs).move s z) 0 (λ r. only (alike_states r t) (units s * at weights z))))

    -- what signals in one point: the same over the signalling moves
    unfoldable pub state_signalled : (ℕ → ℕ) → ℕ
    state_signalled units =
        over_states (λ s. sum zone_count (λ z. after ((state_automaton rs).move s z) (units s * at weights z) (λ r. 0)))

    -- all units are in the empty state; then each state's whole sum is divided once and rounded down
    unfoldable pub state_units : ℕ → ℕ → ℕ
    state_units zero t = only (alike_states (state_automaton rs).start t) units_per_one
    state_units (suc n) t = state_inflow (state_units n) t / weight_total
