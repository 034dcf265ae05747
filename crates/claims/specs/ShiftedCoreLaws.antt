-- By which numbers a chart with a shifted core's weights is refused. Laws.
use Rattle.std.specs.Prelude.{ℕ, ◌≡◌, List, ◌∷◌, ℤ, length, Err, Ok}
use Rattle.std.proofs.Common.{arith, eq-eqb}
use Rattle.std.proofs.Math.Dec.{leb}
use Rattle.rules.specs.declared.RuleList.{RuleList}
use Rattle.rules.specs.declared.refusal.Refusal.{Refusal}
use Rattle.rules.specs.declared.weights.ZoneWeights.{ZoneWeights}
use Rattle.rules.specs.Bounds.{zone_count, max_states}
use Rattle.rules.specs.Refusal.{number_of, bad_weights, bad_horizon, too_many_states, short_list}
use Rattle.rules.specs.Check.{within, or_else, unless, active_rules, check_of}
use Rattle.rules.specs.Numbers.{rule_numbers, OneOf, here, there}
use Rattle.rules.proofs.NumbersLaws.{on_both, refused_by_lem, list_number}
use Rattle.rules.specs.Weights.{weight_list}
use Rattle.runlength.specs.Scale.{min_horizon, max_horizon, weight_total}
use Rattle.runlength.specs.Sum.{at, sum}
use Rattle.chain.specs.TableChain.{explored_count}
use Rattle.table.specs.Table.{TableCall, chain_check, table_check, table_of}
use Rattle.table.proofs.TableLaws.{refused_check}
use Rattle.shift.specs.Shift.{shift_of}
use Rattle.shift.proofs.ShiftedWeights.{weights_sum}

-- the table's numbers but for 8
abbrev others : List ℕ
others = number_of short_list ∷ number_of bad_horizon ∷ number_of (too_many_states 0) ∷ rule_numbers

not_eight : {n : ℕ} → OneOf others n → n ≡ (number_of bad_weights) → ⊥
not_eight (here e) q = omega arith
not_eight (there (here e)) q = omega arith
not_eight (there (there (here e))) q = omega arith
not_eight (there (there (there (here e)))) q = omega arith
not_eight (there (there (there (there (here e))))) q = omega arith
not_eight (there (there (there (there (there (here e)))))) q = omega arith
not_eight (there (there (there (there (there (there o)))))) q = elim o [ ]

module _ (s : ℤ) (w : ZoneWeights) (ok : shift_of s ≡ Ok w) where
  -- A chart with these weights is checked as if there were no check of weights: 2, 3, 4; 9; 10.
  pub weights_pass : (l : RuleList) (h : ℕ) → chain_check l (weight_list w) h
      ≡ or_else (check_of l)
      (or_else (unless (within min_horizon max_horizon h) bad_horizon)
      (unless (leb (explored_count (active_rules l)) max_states) (too_many_states 0)))
  unfolding chain_check
  weights_pass l h = rw (eq-eqb (sum zone_count (at (weight_list w))) weight_total (weights_sum s w ok))

  chain_others : (l : RuleList) (h : ℕ) (x : Refusal) → chain_check l (weight_list w) h ≡ Err x → OneOf others (number_of x)
  chain_others l h x e =
      let horizon = within min_horizon max_horizon h in
      let count = leb (explored_count (active_rules l)) max_states in
      on_both _ (check_of l) _ x (λ q. there (there (there (list_number l x q))))
      (on_both _ (unless horizon bad_horizon) _ x (λ q. there (here (refused_by_lem horizon bad_horizon x q)))
      (λ q. there (there (here (refused_by_lem count (too_many_states 0) x q)))))
      (rw (weights_pass l h) at e)

  -- So no chart, and no call of the table, with them is refused by 8.
  pub chain_never_eight : (l : RuleList) (h : ℕ) (x : Refusal) → chain_check l (weight_list w) h ≡ Err x → number_of x ≡ (number_of bad_weights) → ⊥
  chain_never_eight l h x e = not_eight (chain_others l h x e)

  pub never_eight : (t : TableCall) (x : Refusal) → t.weights ≡ weight_list w → table_check t ≡ Err x → number_of x ≡ (number_of bad_weights) → ⊥
  unfolding table_check
  never_eight t x given e =
      let first = leb t.horizon (length t.pmf_before) in
      let second = leb t.horizon (length t.survival_before) in
      not_eight
      (on_both _ (chain_check t.list t.weights t.horizon) _ x (λ q. chain_others t.list t.horizon x (rw given at q))
      (on_both _ (unless first short_list) _ x (λ q. here (refused_by_lem first short_list x q))
      (λ q. here (refused_by_lem second short_list x q))) e)

  -- The operation's own answer is never a refusal by 8.
  pub table_never_eight : (t : TableCall) (x : Refusal) → t.weights ≡ weight_list w → (table_of t).answer ≡ Err x
      → number_of x ≡ (number_of bad_weights) → ⊥
  table_never_eight t x given e = never_eight t x given (refused_check t x e)
