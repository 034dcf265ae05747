-- TO BELIEVE: the restricted mean in units of 2^-60, rounded to parts of 2^-36. Definitions.
use Rattle.std.specs.Prelude.{ℕ, ◌+◌, ◌-◌, ◌/◌, ◌^◌, ◌≤◌, ◌<◌}
use Rattle.runlength.specs.Scale.{max_horizon, units_per_one}
use Rattle.table.specs.declared.TableFigures.{TableFigures}

-- parts of 2^-36 in one, and units of 2^-60 in a part
abbrev pub parts_per_one : ℕ
parts_per_one = 2 ^ 36

abbrev pub units_per_part : ℕ
units_per_part = units_per_one / parts_per_one

-- units as parts, rounded down and up
abbrev pub round_down : ℕ → ℕ
round_down u = u / units_per_part

abbrev pub round_up : ℕ → ℕ
round_up u = (u + (units_per_part - 1)) / units_per_part

-- a mean that an accepted table can have (working definition)
pub record MeanFits (f : TableFigures) : Type 0 where
  pub whole : f.mean_whole ≤ max_horizon
  pub fraction : f.mean_fraction < units_per_one
