-- The table of n states goes by their own moves alone: what stands after them in the list of moves changes no figure.
use Rattle.std.specs.Prelude.{◌≡◌, List, get_or, eqb}
use Rattle.std.proofs.Math.Path.{refl, ap}
use Rattle.std.proofs.Common.{◌∙◌, mul-le-mul_left, arith}
use Prim.Native.Nat.{ℕ, zero, suc, ◌+◌, ◌*◌, ◌/◌, ◌<◌}
use Rattle.runlength.specs.Scale.{weight_total}
use Rattle.runlength.specs.Sum.{only, front}
use Rattle.runlength.specs.SumLaws.{sum_cong}
use Rattle.runlength.specs.TabLaws.{tab_cong}
use Rattle.runlength.specs.Automaton.{after}
use Rattle.runlength.specs.Chain.{Chain, inflow, signalled, units, pmf, survival, restricted_mean}
use Rattle.runlength.specs.Listed.{entry_move, listed_chain}

-- two rules that agree write the same list
pub front_cong : (h : ℕ) (f g : ℕ → ℕ) (d : List ℕ) → ((k : ℕ) → f k ≡ g k) → front h f d ≡ front h g d
unfolding front
front_cong h f g d e = rw (tab_cong h f g (λ k l. e k))

module _ (zones n : ℕ) (m m' : List ℕ) (weight : ℕ → ℕ) (same : (k : ℕ) → k < zones * n → get_or m k 0 ≡ get_or m' k 0) where
  abbrev c : Chain
  c = listed_chain zones n m weight

  abbrev c' : Chain
  c' = listed_chain zones n m' weight

  within_moves : (s z : ℕ) → s < n → z < zones → zones * s + z < zones * n
  within_moves s z i j = omega (arith, mul-le-mul_left zones i)

  flow_same : (u v : ℕ → ℕ) → ((s : ℕ) → u s ≡ v s) → (t : ℕ) → inflow c u t ≡ inflow c' v t
  unfolding inflow
  flow_same u v e t =
      sum_cong n _ _ (λ s i. sum_cong zones _ _ (λ z j.
      ap (λ x. after (entry_move n x) 0 (λ r. only (eqb r t) (u s * weight z))) (same (zones * s + z) (within_moves s z i j))
      ∙ ap (λ y. after (entry_move n (get_or m' (zones * s + z) 0)) 0 (λ r. only (eqb r t) (y * weight z))) (e s)))

  signalled_same : (u v : ℕ → ℕ) → ((s : ℕ) → u s ≡ v s) → signalled c u ≡ signalled c' v
  unfolding signalled
  signalled_same u v e =
      sum_cong n _ _ (λ s i. sum_cong zones _ _ (λ z j.
      ap (λ x. after (entry_move n x) (u s * weight z) (λ r. 0)) (same (zones * s + z) (within_moves s z i j))
      ∙ ap (λ y. after (entry_move n (get_or m' (zones * s + z) 0)) (y * weight z) (λ r. 0)) (e s)))

  units_same : (k t : ℕ) → units c k t ≡ units c' k t
  unfolding units
  units_same zero t = refl
  units_same (suc k) t = ap (λ x. x / weight_total) (flow_same (units c k) (units c' k) (units_same k) t)

  pub pmf_same : (k : ℕ) → pmf c (suc k) ≡ pmf c' (suc k)
  unfolding pmf
  pmf_same k = ap (λ x. x / weight_total) (signalled_same (units c k) (units c' k) (units_same k))

  pub survival_same : (k : ℕ) → survival c k ≡ survival c' k
  unfolding survival
  survival_same k = sum_cong n (units c k) (units c' k) (λ t i. units_same k t)

  pub mean_same : (h : ℕ) → restricted_mean c h ≡ restricted_mean c' h
  unfolding restricted_mean
  mean_same h = sum_cong h (survival c) (survival c') (λ k i. survival_same k)
