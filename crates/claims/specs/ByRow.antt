-- TO BELIEVE: document 01's round-down steps over rows of the plain chart, one for each future: no state, no list of
-- states and no merged chart is in them. Definitions.
use Rattle.std.specs.Prelude.{ℕ, zero, suc, ◌*◌, ◌/◌, Bool, List, []}
use Rattle.rules.specs.declared.Rule.{Rule}
use Rattle.rules.specs.Bounds.{zone_count, max_states}
use Rattle.runlength.specs.Scale.{weight_total, units_per_one}
use Rattle.runlength.specs.Sum.{at, sum, only}
use Rattle.runlength.specs.Automaton.{after}
use Rattle.runlength.specs.Apart.{alike_for}
use Rattle.states.specs.Automata.{reference_automaton}

module _ (rs : List Rule) where
  -- no continuation of up to 1,024 points tells the two rows apart on the plain chart: each first signals at the same
  -- point, or not, from both
  unfoldable pub alike_rows : List ℕ → List ℕ → Bool
  alike_rows r s = alike_for (reference_automaton rs) max_states r s

  module _ (rows : ℕ → List ℕ) (n : ℕ) (weights : List ℕ) where
    -- what reaches the row j in one point: over each row and zone that leads with no signal to a row alike to it,
    -- units × weight
    unfoldable pub row_inflow : (ℕ → ℕ) → ℕ → ℕ
    row_inflow units j =
        sum n (λ i. sum zone_count (λ z.
        after ((reference_automaton rs).move (rows i) z) 0 (λ r. only (alike_rows r (rows j)) (units i * at weights z))))

    -- what signals in one point: the same over the signalling zones
    unfoldable pub row_signalled : (ℕ → ℕ) → ℕ
    row_signalled units =
        sum n (λ i. sum zone_count (λ z. after ((reference_automaton rs).move (rows i) z) (units i * at weights z) (λ r. 0)))

    -- the units of the row j after k points: all with the empty row; then each row's whole sum is divided once and
    -- rounded down
    unfoldable pub row_units : ℕ → ℕ → ℕ
    row_units zero j = only (alike_rows [] (rows j)) units_per_one
    row_units (suc k) j = row_inflow (row_units k) j / weight_total

    -- the chance at k + 1, what is left at k, and the mean cut at h
    unfoldable pub row_chance : ℕ → ℕ
    row_chance k = row_signalled (row_units k) / weight_total

    unfoldable pub row_left : ℕ → ℕ
    row_left k = sum n (row_units k)

    unfoldable pub row_mean : ℕ → ℕ
    row_mean h = sum h row_left
