-- Laws of the rounded mean: its parts by whole part and fraction, that they fit a double, and what they bound.
use Rattle.std.specs.Prelude.{◌≡◌, ℕ, ◌+◌, ◌-◌, ◌*◌, ◌/◌, ◌%◌, ◌^◌, ◌≤◌, ◌<◌}
use Rattle.std.proofs.Common.{arith}
use Rattle.runlength.specs.Scale.{max_horizon, units_per_one}
use Rattle.summary.specs.ErrorBoundLaws.{max_error_bound}
use Rattle.plot.specs.MeanBounds.{parts_per_one, units_per_part, round_down, round_up}

-- rounded down: the whole part's parts, and those of the fraction
pub down_parts : (w f : ℕ) → round_down (w * units_per_one + f) ≡ w * parts_per_one + f / units_per_part
down_parts w f = omega arith

-- rounded up: the fraction's parts carry into the whole part
pub up_parts : (w f s : ℕ)
    → round_up (w * units_per_one + f + s)
    ≡ (w + (f + s + (units_per_part - 1)) / units_per_part / parts_per_one) * parts_per_one + (f + s + (units_per_part - 1)) / units_per_part % parts_per_one
up_parts w f s = omega arith

module _ (w f : ℕ) (whole : w ≤ max_horizon) (fraction : f < units_per_one) where
  -- 53 binary digits are enough
  pub down_fits : round_down (w * units_per_one + f) < 2 ^ 53
  down_fits = omega arith

  pub up_fits : (s : ℕ) → s ≤ max_error_bound → round_up (w * units_per_one + f + s) < 2 ^ 53
  up_fits s most = omega arith

-- what is rounded down is no more, what is rounded up no less
module _ (u : ℕ) where
  pub down_below : round_down u * units_per_part ≤ u
  down_below = omega arith

  pub up_above : u ≤ round_up u * units_per_part
  up_above = omega arith
