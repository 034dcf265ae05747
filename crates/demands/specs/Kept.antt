-- TO BELIEVE: that a refused call leaves all that was lent to it as it was, one sentence for each operation.
-- Definitions.
use Rattle.std.specs.Prelude.{ℕ, ◌≡◌, List, Float, ℤ, Err}
use Rattle.rules.specs.declared.RuleList.{RuleList}
use Rattle.rules.specs.declared.refusal.Refusal.{Refusal}
use Rattle.monitor.specs.declared.Monitor.{Monitor}
use Rattle.monitor.specs.declared.Step.{Step}
use Rattle.monitor.specs.Step.{step_of}
use Rattle.monitor.specs.Calls.{monitor_after}
use Rattle.batch.specs.declared.Batch.{Batch}
use Rattle.batch.specs.Batch.{batch_of}
use Rattle.table.specs.Table.{TableCall, table_of}
use Rattle.summary.specs.Summary.{summary_of}
use Rattle.plot.specs.Plot.{box_plot_of}
use Rattle.write.specs.Printed.{Printed, report_of}
use Rattle.table_report.specs.TableReport.{table_printed}
use Rattle.monitor_report.specs.MonitorReport.{monitor_printed}
use Rattle.weights_report.specs.WeightsReport.{weights_printed}
use Rattle.call_arrays.specs.BatchArrays.{batch_checked}
use Rattle.capi.specs.MonitorCall.{ZoneCall, StepCall}
use Rattle.capi.specs.BatchCall.{BatchCall}
use Rattle.capi.specs.TableCall.{TableCalled}
use Rattle.capi.specs.BracketCall.{BracketCalled}
use Rattle.capi.specs.PlotCall.{PlotCalled}
use Rattle.capi.specs.ShiftCall.{ShiftCall}
use Rattle.capi.specs.ReportCall.{ReportCall}

-- the buffer of a report that prints p
abbrev pub ReportKeeps : Printed → Type 0
ReportKeeps p = (out : List ℕ) (x : Refusal) → (report_of p out).answer ≡ Err x
    → (report_of p out).buffer ≡ out

-- The operations. The check of a rule list, the zone of a reading, the bracket and the weights of a shift are lent
-- nothing that they could write; a program's output function is not refused, it writes the refusal's line.
pub record OperationsKeep : Type 0 where
  -- the two lists
  pub table : (t : TableCall) (x : Refusal) → (table_of t).answer ≡ Err x
      → ((table_of t).pmf_list ≡ t.pmf_before) × ((table_of t).survival_list ≡ t.survival_before)
  pub summary : (t : TableCall) (x : Refusal) → (summary_of t).answer ≡ Err x
      → ((summary_of t).pmf_list ≡ t.pmf_before) × ((summary_of t).survival_list ≡ t.survival_before)
  pub plot : (t : TableCall) (x : Refusal) → (box_plot_of t).answer ≡ Err x
      → ((box_plot_of t).pmf_list ≡ t.pmf_before) × ((box_plot_of t).survival_list ≡ t.survival_before)
  -- the monitor that the next call gets
  pub step : (l : RuleList) (m : Monitor) (z : ℕ) (x : Refusal) → step_of l m z ≡ Err x
      → monitor_after m (step_of l m z) ≡ m
  pub batch : (l : RuleList) (m : Monitor) (centre : ℤ) (sigma : ℕ) (xs : List ℤ) (x : Refusal)
      → batch_checked (batch_of l m centre sigma xs) ≡ Err x → (batch_of l m centre sigma xs).next ≡ m
  -- the buffer
  pub table_report : (s : List ℕ) → ReportKeeps (table_printed s)
  pub monitor_report : (s : List ℕ) → ReportKeeps (monitor_printed s)
  pub weights_report : (s : List ℕ) → ReportKeeps (weights_printed s)

-- the buffer and the count of a report function that is to print p
abbrev pub ReportCallKeeps : Printed → Type 0
ReportCallKeeps p = (out count out' count' : List ℕ) (r : ℕ) → ReportCall p out count out' count' r → (r ≡ 0 → ⊥)
    → (out' ≡ out) × (count' ≡ count)

-- The exported functions, of every call that meets its function's contract, as each call does: where the code is not 0,
-- every array is as it was. `catrovindy_check` and `catrovindy_version` are lent nothing that they could write.
pub record ExportedKeep : Type 0 where
  pub zone : {reading centre : ℤ} {sigma : ℕ} {z z' : List ℕ} {r : ℕ} → ZoneCall reading centre sigma z z' r
      → (r ≡ 0 → ⊥)
      → z' ≡ z
  pub step : {l : RuleList} {m : Monitor} {z : ℕ} {s p a s' p' a' : List ℕ} {r : ℕ} → StepCall l m z s p a s' p' a' r
      → (r ≡ 0 → ⊥)
      → (s' ≡ s) × (p' ≡ p) × (a' ≡ a)
  pub batch : {b : Batch Refusal} {s p a s' p' a' : List ℕ} {r : ℕ} → BatchCall b s p a s' p' a' r → (r ≡ 0 → ⊥)
      → (s' ≡ s) × (p' ≡ p) × (a' ≡ a)
  pub table : {t : TableCall} {f p' s' f' : List ℕ} {r : ℕ} → TableCalled t f p' s' f' r → (r ≡ 0 → ⊥)
      → (p' ≡ t.pmf_before) × (s' ≡ t.survival_before) × (f' ≡ f)
  pub bracket : {pmf : List ℕ} {count p : ℕ} {a a' : List ℕ} {r : ℕ} → BracketCalled pmf count p a a' r → (r ≡ 0 → ⊥)
      → a' ≡ a
  pub plot : {t : TableCall} {k : List ℕ} {v : List Float} {p' s' k' : List ℕ} {v' : List Float} {r : ℕ}
      → PlotCalled t k v p' s' k' v' r → (r ≡ 0 → ⊥) → (p' ≡ t.pmf_before) × (s' ≡ t.survival_before) × (k' ≡ k)
      × (v' ≡ v)
  pub shift : {s : ℤ} {w w' : List ℕ} {r : ℕ} → ShiftCall s w w' r → (r ≡ 0 → ⊥) → w' ≡ w
  pub table_report : (s : List ℕ) → ReportCallKeeps (table_printed s)
  pub monitor_report : (s : List ℕ) → ReportCallKeeps (monitor_printed s)
  pub weights_report : (s : List ℕ) → ReportCallKeeps (weights_printed s)
