-- TO BELIEVE: Document 01's scales and the longest horizon, each written here once. Definitions.
use Rattle.std.specs.Prelude.{ℕ, ◌^◌}

-- probability one for a single point: what the weights of the zones sum to
abbrev pub weight_total : ℕ
weight_total = 2 ^ 30

-- probability one in units, the table's figures
abbrev pub units_per_one : ℕ
units_per_one = 2 ^ 60

-- probability one in percent
abbrev pub percents_per_one : ℕ
percents_per_one = 100

-- a table has this many rows, a list of chances this many places
abbrev pub min_horizon : ℕ
min_horizon = 1

abbrev pub max_horizon : ℕ
max_horizon = 65535
