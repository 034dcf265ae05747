-- TO BELIEVE: the bounds of the bracket's number of states and percent, each written here once. Definitions.
use Rattle.std.specs.Prelude.{ℕ}

-- document 01's N
abbrev pub min_states : ℕ
min_states = 1

-- document 01's p
abbrev pub min_percent : ℕ
min_percent = 1

abbrev pub max_percent : ℕ
max_percent = 99
