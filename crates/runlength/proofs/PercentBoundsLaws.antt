-- When the round-down table shows that a share of the runs has signalled: the two tests of a percentile, p of d parts. Laws.
use Rattle.std.specs.Prelude.{ℕ, ◌+◌, ◌*◌, ◌^◌, ◌≤◌, ◌<◌}
use Rattle.std.proofs.Common.{mul-le-mul_left, mul-le-mul_right, le_of_mul-le-mul_right, lt_of_mul-lt-mul_right, arith}
use Rattle.std.proofs.Math.Nat.{mul-lt-mul_of_pos_left}
use Rattle.runlength.specs.Automaton.{exact_cdf}
use Rattle.runlength.specs.Chain.{Chain, Proper, cdf}
use Rattle.runlength.proofs.CdfBoundsLaws.{cdf_lower, cdf_strict_upper}

-- a share reached by a lower bound f / w of e / b is reached
share_of_lower : (p d f e w b : ℕ) → f * b ≤ e * w → 0 < w → p * w ≤ d * f → p * b ≤ d * e
share_of_lower p d f e w b k pos r = le_of_mul-le-mul_right {k = w} (omega (arith, mul-le-mul_right b r, mul-le-mul_left d k)) pos

-- a share that e / b reaches is passed by a strict upper bound f / w of it
share_of_upper : (p d f e w b : ℕ) → e * w < f * b → 0 < d → p * b ≤ d * e → p * w < d * f
share_of_upper p d f e w b k pos r = lt_of_mul-lt-mul_right b (omega (arith, mul-le-mul_right w r, mul-lt-mul_of_pos_left k pos))

module _ (c : Chain) (proper : Proper c) (p d n : ℕ) where
  -- p of d parts in the table's cdf are p of d parts in the exact one
  pub share_reached : p * c.whole ≤ d * cdf c n → p * c.base ^ n ≤ d * exact_cdf c.automaton c.weight n
  share_reached = share_of_lower p d (cdf c n) _ c.whole (c.base ^ n) (cdf_lower c proper n) proper.whole_pos

  -- p of d parts in the exact cdf are less than d times the table's cdf and its error
  pub reached_share : 0 < d → 1 ≤ n → p * c.base ^ n ≤ d * exact_cdf c.automaton c.weight n → p * c.whole < d * (cdf c n + n * (c.size + 1))
  reached_share pos h = share_of_upper p d (cdf c n + n * (c.size + 1)) _ c.whole (c.base ^ n) (cdf_strict_upper c proper n h) pos
