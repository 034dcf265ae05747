-- TO BELIEVE: a call of the run-length table. Definitions.
use Rattle.std.specs.Prelude.{ℕ, ◌≡◌, List, set, Err, Ok, Result}
use Rattle.table.specs.declared.TableFigures.{TableFigures}
use Rattle.rules.specs.declared.refusal.Refusal.{Refusal}
use Rattle.rules.specs.Check.{checked, Checked}
use Rattle.table.specs.Table.{TableCall, table_of}
use Rattle.codes.specs.Codes.{check_code}

-- what the figures' array of four numbers then holds: N, left at the horizon, and the cut mean; a refusal leaves it as it was
abbrev pub figures_after : Result TableFigures Refusal → List ℕ → List ℕ
figures_after (Ok f) figures = set (set (set (set figures 0 f.state_count) 1 f.survival) 2 f.mean_whole) 3 f.mean_fraction
figures_after (Err x) figures = figures

-- a call of the table: the answer's number, and all that was lent, as they then are
pub record TableCalled (t : TableCall) (f p' s' f' : List ℕ) (r : ℕ) : Type 0 where
  pub code : r ≡ check_code (checked (table_of t).answer)
  pub pmf_list_lem : p' ≡ (table_of t).pmf_list
  pub survival_list_lem : s' ≡ (table_of t).survival_list
  pub figures : f' ≡ figures_after (table_of t).answer f
