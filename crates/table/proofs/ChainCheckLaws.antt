-- The checks of a chain case by case, and what a chain that passes them has. Laws.
use Rattle.std.specs.Prelude.{◌≡◌, refl, Bool, true, false, List, ℕ, ◌≤◌, ◌<◌, eqb, Err, Ok, Result}
use Rattle.std.proofs.Common.{sym, ap, ◌∙◌, arith}
use borrow.Author.Tests.{le-leb, lt-leb, leb-true, eq-eqb, ne_eqb, eqb-true}
use Rattle.rules.specs.declared.RuleList.{RuleList}
use Rattle.rules.specs.declared.refusal.Refusal.{Refusal}
use Rattle.rules.specs.Bounds.{zone_count, max_states}
use Rattle.rules.specs.Refusal.{bad_weights, bad_horizon, too_many_states}
use Rattle.rules.specs.Check.{within, unless, active_rules, check_of}
use Rattle.rules.proofs.CheckLaws.{both_accept, between, accepted}
use Rattle.runlength.specs.Scale.{min_horizon, max_horizon, weight_total}
use Rattle.runlength.specs.Sum.{at, sum}
use Rattle.chain.specs.TableChain.{explored_count}
use Rattle.chain.specs.ChainMade.{ChainMade}
use Rattle.table.specs.ChainChecked.{ChainChecked}
use Rattle.table.specs.Table.{chain_check}
use Rattle.table.specs.AcceptedTable.{AcceptedChain}

module _ (l : RuleList) (w : List ℕ) (h : ℕ) where
  -- 2, 3 and 4
  pub bad_rules : {x : Refusal} → check_of l ≡ Err x → chain_check l w h ≡ Err x
  unfolding chain_check
  bad_rules e = rw e

  module _ (rules : check_of l ≡ Ok tt) where
    -- 8
    pub bad_weights_lem : (sum zone_count (at w) ≡ weight_total → ⊥) → chain_check l w h ≡ Err bad_weights
    unfolding chain_check
    bad_weights_lem n = rw (rules, ne_eqb (sum zone_count (at w)) weight_total n)

    module _ (weights : sum zone_count (at w) ≡ weight_total) where
      -- 9
      pub no_horizon : h < min_horizon → chain_check l w h ≡ Err bad_horizon
      unfolding chain_check
      no_horizon n = rw (rules, eq-eqb (sum zone_count (at w)) weight_total weights, lt-leb min_horizon h n)

      module _ (low : min_horizon ≤ h) where
        pub long_horizon : max_horizon < h → chain_check l w h ≡ Err bad_horizon
        unfolding chain_check
        long_horizon n =
            rw (rules, eq-eqb (sum zone_count (at w)) weight_total weights, le-leb min_horizon h low, lt-leb h max_horizon n)

        module _ (high : h ≤ max_horizon) where
          -- 10
          pub too_many_states_lem : max_states < explored_count (active_rules l) → chain_check l w h ≡ Err (too_many_states 0)
          unfolding chain_check
          too_many_states_lem n =
              rw (rules, eq-eqb (sum zone_count (at w)) weight_total weights, le-leb min_horizon h low, le-leb h max_horizon high)
              (ap (λ b. unless b (too_many_states 0)) (lt-leb (explored_count (active_rules l)) max_states n))

          -- none of them
          pub chain_passes : explored_count (active_rules l) ≤ max_states → chain_check l w h ≡ Ok tt
          unfolding chain_check
          chain_passes n = rw (
            rules,
            eq-eqb (sum zone_count (at w)) weight_total weights,
            le-leb min_horizon h low,
            le-leb h max_horizon high,
            le-leb (explored_count (active_rules l)) max_states n,
          )

          -- what the chain answers is the rest of the check
          pub moves_made : (m : List ℕ) (a : Result ℕ Refusal) → ChainMade (active_rules l) m a → ChainChecked l w h m a
          moves_made m (Ok n) c = (chain_passes c.0, c.1)
          moves_made m (Err x) c = too_many_states_lem c.0 ∙ ap Err (sym c.1)

-- a test that accepts has passed
pub passed : (t : Bool) (x : Refusal) → unless t x ≡ Ok tt → t ≡ true
passed true x e = refl
passed false x e = let z : ◌≡◌ {A = ℕ} 0 1 = cc in absurd (omega arith)

-- a chart that is accepted is in all bounds
pub accepted_chain : (l : RuleList) (w : List ℕ) (h : ℕ) → chain_check l w h ≡ Ok tt → AcceptedChain l w h
unfolding chain_check
accepted_chain l w h e =
    let a = both_accept (check_of l) _ e in
    let b = both_accept (unless (eqb (sum zone_count (at w)) weight_total) bad_weights) _ a.1 in
    let c = both_accept (unless (within min_horizon max_horizon h) bad_horizon) _ b.1 in
    let g = between min_horizon max_horizon h (passed _ bad_horizon c.0) in
    record {
      rules = a.0;
      bounds = (accepted l a.0).2;
      weights = eqb-true _ _ (passed _ bad_weights b.0);
      some_horizon = g.0;
      most_horizon = g.1;
      few = leb-true _ _ (passed _ (too_many_states 0) c.1);
    }

-- and the other way round
pub chain_accepted : {l : RuleList} {w : List ℕ} {h : ℕ} → AcceptedChain l w h → chain_check l w h ≡ Ok tt
chain_accepted {l} {w} {h} c = chain_passes l w h c.rules c.weights c.some_horizon c.most_horizon c.few
