-- The round-down table's cdf and survival against the exact ones, multiplied out. Laws.
use Rattle.std.specs.Prelude.{◌≡◌, Bool, true, false, eqb}
use Rattle.std.proofs.Common.{ap, pow-suc, div-mul-le_self}
use Prim.Native.Nat.{ℕ, zero, suc, ◌+◌, ◌*◌, ◌^◌, ◌≤◌, ◌<◌}
use Rattle.std.proofs.Math.Nat.{mul-le-mul_right, pow-zero, one-le-pow}
use native.Mathlib.Omega.{arith}
use Rattle.runlength.specs.Sum.{sum, only}
use Rattle.runlength.specs.SumLaws.{sum_scale}
use Rattle.runlength.specs.Automaton.{exact_cdf, exact_survival}
use Rattle.runlength.specs.Chain.{Chain, Proper, inflow, signalled, units, pmf, cdf, survival}
use Rattle.runlength.specs.Flow.{exact_units}
use Rattle.runlength.proofs.FlowLaws.{step_conservation, inflow_scale, signalled_scale}
use Rattle.runlength.proofs.TotalMassLaws.{cdf_survival_total}
use Rattle.runlength.proofs.UnitsLaws.{survival_of_units}
use Rattle.runlength.proofs.ConservationLaws.{mass_lower}

-- the rounded units of a state are never more than the exact ones
pub units_lower : (c : Chain) (n s : ℕ) → units c n s * c.base ^ n ≤ exact_units c n s * c.whole
unfolding units exact_units
units_lower c zero s = each (eqb c.automaton.start s)
  where
    each : (b : Bool) → only b c.whole * c.base ^ 0 ≤ only b 1 * c.whole
    each true = omega (arith, ap (λ k. c.whole * k) (pow-zero c.base))
    each false = omega arith
units_lower c (suc n) s =
    rw pow-suc
    (omega (
      arith,
      mul-le-mul_right (c.base ^ n) (div-mul-le_self (inflow c (units c n) s) c.base),
      inflow_scale c (units c n) (exact_units c n) (c.base ^ n) c.whole (units_lower c n) s,
    ))

-- one point more of the cdf, in numbers: what is whole and not surviving
next_part : (f f' s s' o p b : ℕ) → f + s ≡ p → f' + s' ≡ p * b → s' + o ≡ s * b → f' ≡ f * b + o
next_part f f' s s' o p b e e' k = omega (arith, ap (λ x. x * b) e)

-- what one of two parts lacks is at most what both lack
other_part : (f s e u w p r : ℕ) → f + e ≡ p → u * p ≤ e * w → w ≤ s + u + r → f * w ≤ (s + r) * p
other_part f s e u w p r t k m = omega (arith, ap (λ x. x * w) t, mul-le-mul_right p m)

module _ (c : Chain) (proper : Proper c) where
  -- a power of the base is positive
  base_pow_pos : (n : ℕ) → 0 < c.base ^ n
  base_pow_pos n = one-le-pow n c.base proper.base_pos

  -- the table's survival is never more than the exact one
  pub survival_lower : (n : ℕ) → survival c n * c.base ^ n ≤ exact_survival c.automaton c.weight n * c.whole
  unfolding survival
  survival_lower n =
      rw (survival_of_units c proper n) (sum_scale c.size (units c n) (exact_units c n) (c.base ^ n) c.whole (λ s l. units_lower c n s))

  -- one point more of the exact cdf: what the unrounded units signal
  exact_cdf_step : (n : ℕ)
      → exact_cdf c.automaton c.weight (suc n) ≡ exact_cdf c.automaton c.weight n * c.base + signalled c (exact_units c n)
  unfolding exact_units
  exact_cdf_step n =
      next_part _ _ (sum c.size (exact_units c n)) (sum c.size (exact_units c (suc n))) _ (c.base ^ n) c.base
      (rw (← (survival_of_units c proper n)) (cdf_survival_total c.automaton c.weight c.base proper.weights n))
      (rw (← (survival_of_units c proper (suc n)), ← (pow-suc c.base n)) (cdf_survival_total c.automaton c.weight c.base proper.weights (suc n)))
      (step_conservation c proper (exact_units c n))

  -- the table's cdf is never more than the exact one
  pub cdf_lower : (n : ℕ) → cdf c n * c.base ^ n ≤ exact_cdf c.automaton c.weight n * c.whole
  unfolding cdf sum pmf
  cdf_lower zero = omega arith
  cdf_lower (suc n) =
      rw (pow-suc, exact_cdf_step n)
      (omega (
        arith,
        mul-le-mul_right c.base (cdf_lower n),
        mul-le-mul_right (c.base ^ n) (div-mul-le_self (signalled c (units c n)) c.base),
        signalled_scale c (units c n) (exact_units c n) (c.base ^ n) c.whole (units_lower c n),
      ))

  -- the exact cdf is more than the table's by at most one unit for each state and point
  cdf_upper : (n : ℕ) → exact_cdf c.automaton c.weight n * c.whole ≤ (cdf c n + n * c.size) * c.base ^ n
  cdf_upper n =
      other_part _ (cdf c n) _ (survival c n) c.whole (c.base ^ n) (n * c.size)
      (cdf_survival_total c.automaton c.weight c.base proper.weights n)
      (survival_lower n) (mass_lower c proper n)

  -- and strictly by less than one more for each point
  pub cdf_strict_upper : (n : ℕ) → 1 ≤ n → exact_cdf c.automaton c.weight n * c.whole < (cdf c n + n * (c.size + 1)) * c.base ^ n
  cdf_strict_upper n h = omega (arith, cdf_upper n, base_pow_pos n, mul-le-mul_right (c.base ^ n) h)

  -- the exact survival is more than the table's by at most one unit for each state and point
  pub survival_upper : (n : ℕ) → exact_survival c.automaton c.weight n * c.whole ≤ (survival c n + n * c.size) * c.base ^ n
  survival_upper n =
      other_part _ (survival c n) _ (cdf c n) c.whole (c.base ^ n) (n * c.size)
      (omega (arith, cdf_survival_total c.automaton c.weight c.base proper.weights n))
      (cdf_lower n)
      (omega (arith, mass_lower c proper n))
