-- Conservation of mass in the round-down table: the cdf and the survival make the whole, short of it by at most one unit for each state
-- and point. Laws.
use Rattle.std.specs.Prelude.{◌≡◌}
use Prim.Native.Nat.{ℕ, zero, suc, ◌+◌, ◌*◌, ◌≤◌, ◌<◌}
use Rattle.std.proofs.Math.Nat.{le_of_mul-le-mul_right, lt_of_mul-lt-mul_right, div-mul-le_self, lt-div-mul-add}
use native.Mathlib.Omega.{arith}
use Rattle.runlength.specs.Sum.{sum}
use Rattle.runlength.specs.SumLaws.{sum_pick, sum_div_le, sum_div_ge}
use Rattle.runlength.specs.Chain.{Chain, Proper, inflow, signalled, units, pmf, cdf, survival}
use Rattle.runlength.proofs.FlowLaws.{step_conservation}

module _ (c : Chain) (proper : Proper c) where
  -- before the first point the whole survives
  pub survival_start : survival c 0 ≡ c.whole
  unfolding survival units
  survival_start = sum_pick c.size c.automaton.start c.whole proper.start_in

  -- a point loses at most one unit for each state
  survival_loss : (n : ℕ) → survival c n ≤ survival c (suc n) + pmf c (suc n) + c.size
  unfolding survival units pmf
  survival_loss n =
      let r : survival c n < survival c (suc n) + pmf c (suc n) + c.size + 1 =
      lt_of_mul-lt-mul_right c.base
      (omega (
        arith,
        step_conservation c proper (units c n),
        sum_div_ge c.size (inflow c (units c n)) proper.base_pos,
        lt-div-mul-add {a = signalled c (units c n)} proper.base_pos,
      ))
      in omega arith

  -- a point makes nothing: what survives it and what it signals is at most what survived before
  survival_falls : (n : ℕ) → survival c (suc n) + pmf c (suc n) ≤ survival c n
  unfolding survival units pmf
  survival_falls n =
      le_of_mul-le-mul_right {k = c.base}
      (omega (
        arith,
        step_conservation c proper (units c n),
        sum_div_le c.size (inflow c (units c n)) c.base,
        div-mul-le_self (signalled c (units c n)) c.base,
      ))
      proper.base_pos

  -- the cdf and the survival are short of the whole by at most one unit for each state and point
  pub mass_lower : (n : ℕ) → c.whole ≤ cdf c n + survival c n + n * c.size
  unfolding cdf sum
  mass_lower zero = omega (arith, survival_start)
  mass_lower (suc n) = omega (arith, mass_lower n, survival_loss n)

  -- and never more than the whole
  pub mass_upper : (n : ℕ) → cdf c n + survival c n ≤ c.whole
  unfolding cdf sum
  mass_upper zero = omega (arith, survival_start)
  mass_upper (suc n) = omega (arith, mass_upper n, survival_falls n)

  -- both: mass is conserved but for the rounding
  pub mass_conservation : (n : ℕ) → (cdf c n + survival c n ≤ c.whole) × (c.whole ≤ cdf c n + survival c n + n * c.size)
  mass_conservation n = (mass_upper n, mass_lower n)
