-- CLAIMS: 10 is given: eight rules of one zone each have over 1,024 states, so neither side of `refused_by_10` is
-- empty.
use Rattle.std.specs.Prelude.{ℕ, ◌≤◌, ◌≡◌, List, Err}
use Rattle.rules.specs.Bounds.{zone_count}
use Rattle.rules.specs.Refusal.{too_many_states}
use Rattle.rules.specs.Check.{active_rules}
use Rattle.runlength.specs.Scale.{min_horizon, max_horizon, weight_total}
use Rattle.runlength.specs.Sum.{at, sum}
use Rattle.table.specs.Table.{table_call, table_of}
use Rattle.claims.specs.Counted.{TooManyStates}
use Rattle.claims.proofs.Demand1.{refused_by_10}
use Rattle.demands.specs.TwiceInNine.{twice_in_nine}
use Rattle.demands.specs.TenGivenLaws.{in_bounds, ten_given as ten_given_proved}

-- This list has more states than are taken.
pub ten_given : TooManyStates (active_rules twice_in_nine)
ten_given = ten_given_proved

-- With every weights and every horizon that are accepted, and whatever lists are lent, the table answers 10 for it.
pub ten_answered : (w : List ℕ) (h : ℕ) (p s : List ℕ) → sum zone_count (at w) ≡ weight_total → min_horizon ≤ h
    → h ≤ max_horizon
    → (table_of (table_call twice_in_nine w h p s)).answer ≡ Err (too_many_states 0)
ten_answered w h p s weights some most = (refused_by_10
    (table_call twice_in_nine w h p s) in_bounds weights some most).1 ten_given
