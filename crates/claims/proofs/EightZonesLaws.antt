-- A zone whose sequences add nothing may be left out; so may C0 where it has weight 0, in the exact figures and in the table's. Laws.
use Rattle.std.specs.Prelude.{ℕ, zero, suc, ◌≤◌, ◌<◌, ◌≡◌, refl, List, [], ◌∷◌, ◌++◌, Ok}
use Rattle.std.proofs.Common.{◌∙◌, arith, zero-mul, mul-zero}
use Rattle.rules.specs.Bounds.{zone_count}
use Rattle.runlength.specs.Sum.{sum, sum_sequences, at}
use Rattle.runlength.specs.SumLaws.{sum_cong}
use Rattle.runlength.specs.SequenceLaws.{sequences_none}
use Rattle.runlength.specs.Automaton.{product}
use Rattle.runlength.specs.Chain.{pmf, survival, restricted_mean}
use Rattle.monitor.specs.Zone.{zone_c0}
use Rattle.table.specs.declared.TableFigures.{TableFigures}
use Rattle.chain.specs.TableChain.{table_automaton, table_chain}
use Rattle.table.specs.Table.{TableCall, rules_of, table_of, mean_of}
use Rattle.table.specs.AcceptedTable.{AcceptedTable}
use Rattle.table.proofs.AcceptedTableLaws.{accepted_table}
use Rattle.claims.specs.Centre.{each_zone}
use Rattle.claims.specs.InsideLaws.{inside_pmf, inside_survival}
use Rattle.claims.proofs.WithoutCentreLaws.{no_more_states, inside_all}
use Rattle.claims.specs.Centre.{seven_zones}

-- ---- the exact sum

pub zone_by_zone : (f : ℕ → ℕ) → sum zone_count f ≡ each_zone f
unfolding sum
zone_by_zone f = omega arith

-- a zone whose sequences add nothing may be left out
pub left_out : (zones n : ℕ) (f : List ℕ → ℕ) → ((p q : List ℕ) → f (p ++ (zones ∷ q)) ≡ 0)
    → sum_sequences (suc zones) n f ≡ sum_sequences zones n f
unfolding sum_sequences sum
left_out zones zero f h = refl
left_out zones (suc n) f h =
    let last = sequences_none (suc zones) n (λ q. f (zones ∷ q)) (λ q k i. h [] q) in
    let others = sum_cong zones _ _ (λ z i. left_out zones n (λ q. f (z ∷ q)) (λ p q. h (z ∷ p) q)) in
    omega (arith, last, others)

pub no_product : (weight : ℕ → ℕ) (z : ℕ) → weight z ≡ 0 → (p q : List ℕ) → product weight (p ++ (z ∷ q)) ≡ 0
unfolding product
no_product weight z e [] q = rw e (zero-mul (product weight q))
no_product weight z e (y ∷ p) q = rw (no_product weight z e p q) (mul-zero (weight y))

module _ (t : TableCall) (f : TableFigures) (accepted : (table_of t).answer ≡ Ok f)
    (weightless : at t.weights zone_c0 ≡ 0) where
  call : AcceptedTable t f
  call = accepted_table t f accepted

  same_pmf : (n : ℕ) → pmf (table_chain (rules_of t) t.weights) n ≡ pmf (seven_zones t) n
  unfolding table_automaton
  same_pmf n = inside_pmf (inside_all (rules_of t) call.chain.few) (at t.weights) weightless n

  same_survival : (n : ℕ) → survival (table_chain (rules_of t) t.weights) n ≡ survival (seven_zones t) n
  unfolding table_automaton
  same_survival n = inside_survival (inside_all (rules_of t) call.chain.few) (at t.weights) weightless n

  -- Every chance of an accepted table, all that is left and the cut mean are, to the last unit, those of the round-down
  -- steps over the states that the seven other zones meet, among those that differ by all eight. N alone, and what goes by
  -- it, may be larger.
  pub weightless_chance : (n : ℕ) → n < t.horizon → at (table_of t).pmf_list n ≡ pmf (seven_zones t) (suc n)
  weightless_chance n i = call.pmf_at n i ∙ same_pmf (suc n)

  pub weightless_left : (n : ℕ) → n < t.horizon → at (table_of t).survival_list n ≡ survival (seven_zones t) (suc n)
  weightless_left n i = call.survival_at n i ∙ same_survival (suc n)

  pub weightless_survival : f.survival ≡ survival (seven_zones t) t.horizon
  weightless_survival = call.survival_is ∙ same_survival t.horizon

  pub weightless_cut_mean : mean_of f ≡ restricted_mean (seven_zones t) t.horizon
  unfolding restricted_mean
  weightless_cut_mean = call.mean_is ∙ sum_cong t.horizon _ _ (λ n i. same_survival n)

  pub weightless_count : (seven_zones t).size ≤ f.state_count
  weightless_count = rw call.count_is (no_more_states (rules_of t))
