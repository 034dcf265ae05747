-- What holds while the rows are written. Working definitions.
use Rattle.std.specs.Prelude.{ℕ, suc, ◌≤◌, ◌≡◌, List, length, get_or, take, drop}
use Rattle.write.specs.PartsWritten.{PartsWritten}
use Rattle.runlength.specs.Chain.{cdf_of}
use Rattle.table_lines.specs.RowLine.{row_line, row_room}

-- the row behind n others
abbrev pub row_after : List ℕ → List ℕ → ℕ → List ℕ
row_after pmf survival n = row_line (suc n) (get_or pmf n 0) (cdf_of pmf (suc n)) (get_or survival n 0)

-- n rows of h stand in the buffer from `at` on, up to e, and `cdf` is the sum of their chances
pub record RowsWritten (before : List ℕ) (at h : ℕ) (pmf survival after : List ℕ) (e cdf n : ℕ) : Type 0 where
  pub sum : cdf ≡ cdf_of pmf n
  pub parts : PartsWritten before at row_room h (row_after pmf survival) after e n

-- of the first h numbers of a list, those that are left behind n of them
pub record LeftOf (xs : List ℕ) (h n : ℕ) (rest : List ℕ) : Type 0 where
  pub within : h ≤ length xs
  pub left : rest ≡ drop n (take h xs)
