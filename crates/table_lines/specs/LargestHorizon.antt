-- TO BELIEVE: the table program's largest horizon, and what it makes of a larger one. Definitions.
use Rattle.std.specs.Prelude.{ℕ, cond, leb}

-- the program's largest horizon
abbrev pub max_rows : ℕ
max_rows = 4096

-- a larger one is refused by 9, in 9's turn, as 0 is
abbrev pub report_horizon : ℕ → ℕ
report_horizon h = cond (leb h max_rows) h 0
