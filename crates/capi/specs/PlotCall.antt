-- TO BELIEVE: a call of the plot record. Definitions.
use Rattle.std.specs.Prelude.{ℕ, ◌≡◌, List, Float, Err, Ok, Result}
use Rattle.plot.specs.declared.PlotRecord.{PlotRecord}
use Rattle.rules.specs.declared.refusal.Refusal.{Refusal}
use Rattle.rules.specs.Check.{checked, Checked}
use Rattle.table.specs.Table.{TableCall}
use Rattle.plot.specs.Plot.{box_plot_of}
use Rattle.plot_arrays.specs.PlotArrays.{kinds_as, values_as}
use Rattle.codes.specs.Codes.{check_code}

-- a refusal leaves both arrays as they were
abbrev pub kinds_after : Result PlotRecord Refusal → List ℕ → List ℕ
kinds_after (Ok p) kinds = kinds_as p kinds
kinds_after (Err x) kinds = kinds

abbrev pub values_after : Result PlotRecord Refusal → List Float → List Float
values_after (Ok p) values = values_as p values
values_after (Err x) values = values

-- a call of the plot record: the answer's number, and all that was lent, as they then are
pub record PlotCalled (t : TableCall) (k : List ℕ) (v : List Float) (p' s' k' : List ℕ) (v' : List Float) (r : ℕ) : Type 0 where
  pub code : r ≡ check_code (checked (box_plot_of t).answer)
  pub pmf_list_lem : p' ≡ (box_plot_of t).pmf_list
  pub survival_list_lem : s' ≡ (box_plot_of t).survival_list
  pub kinds : k' ≡ kinds_after (box_plot_of t).answer k
  pub values : v' ≡ values_after (box_plot_of t).answer v
