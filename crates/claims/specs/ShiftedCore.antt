-- CLAIMS: the weights of a shifted core are taken by the table: 8 is never given for them.
use Rattle.std.specs.Prelude.{ℕ, ◌≡◌, leb, ℤ, Err, Ok}
use Rattle.rules.specs.declared.RuleList.{RuleList}
use Rattle.rules.specs.declared.refusal.Refusal.{Refusal}
use Rattle.rules.specs.declared.weights.ZoneWeights.{ZoneWeights}
use Rattle.rules.specs.Bounds.{max_states}
use Rattle.rules.specs.Refusal.{number_of, bad_weights, bad_horizon, too_many_states}
use Rattle.rules.specs.Check.{within, or_else, unless, active_rules, check_of}
use Rattle.rules.specs.Weights.{weight_list}
use Rattle.runlength.specs.Scale.{min_horizon, max_horizon}
use Rattle.chain.specs.TableChain.{explored_count}
use Rattle.table.specs.Table.{TableCall, chain_check, table_check, table_of}
use Rattle.shift.specs.Shift.{shift_of}
use Rattle.claims.specs.ShiftedCoreLaws.{weights_pass as weights_pass_proved, chain_never_eight as chain_never_eight_proved, never_eight as never_eight_proved}
use Rattle.claims.specs.ShiftedCoreLaws.{table_never_eight as table_never_eight_proved}

module _ (s : ℤ) (w : ZoneWeights) (ok : shift_of s ≡ Ok w) where
  -- A chart with these weights is checked as if there were no check of weights: 2, 3, 4; 9; 10.
  pub weights_pass : (l : RuleList) (h : ℕ) → chain_check l (weight_list w) h
      ≡ or_else (check_of l)
      (or_else (unless (within min_horizon max_horizon h) bad_horizon)
      (unless (leb (explored_count (active_rules l)) max_states) (too_many_states 0)))
  weights_pass = weights_pass_proved s w ok

  -- So no chart, and no call of the table, with them is refused by 8.
  pub chain_never_eight : (l : RuleList) (h : ℕ) (x : Refusal) → chain_check l (weight_list w) h ≡ Err x → number_of x ≡ (number_of bad_weights) → ⊥
  chain_never_eight = chain_never_eight_proved s w ok

  pub never_eight : (t : TableCall) (x : Refusal) → t.weights ≡ weight_list w → table_check t ≡ Err x → number_of x ≡ (number_of bad_weights) → ⊥
  never_eight = never_eight_proved s w ok

  -- Nor is the answer of the table operation itself.
  pub table_never_eight : (t : TableCall) (x : Refusal) → t.weights ≡ weight_list w → (table_of t).answer ≡ Err x
      → number_of x ≡ (number_of bad_weights) → ⊥
  table_never_eight = table_never_eight_proved s w ok
