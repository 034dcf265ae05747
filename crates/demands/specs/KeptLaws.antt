-- A refused call leaves all that was lent to it as it was. Laws.
use Rattle.std.specs.Prelude.{ℕ, ◌≡◌, refl, List, Float, ℤ, Err, Ok, Result}
use Rattle.std.proofs.Common.{sym, ap, ◌∙◌, arith, ne_eqb}
use Rattle.rules.specs.Check.{checked}
use Rattle.table.specs.declared.TableFigures.{TableFigures}
use Rattle.bracket.specs.declared.Bracket.{Bracket}
use Rattle.plot.specs.declared.PlotRecord.{PlotRecord}
use Rattle.rules.specs.declared.weights.ZoneWeights.{ZoneWeights}
use Rattle.rules.specs.declared.RuleList.{RuleList}
use Rattle.rules.specs.declared.refusal.Refusal.{Refusal}
use Rattle.monitor.specs.declared.Monitor.{Monitor}
use Rattle.monitor.specs.declared.Step.{Step}
use Rattle.monitor.specs.Zone.{zone_of}
use Rattle.monitor.specs.Step.{step_of}
use Rattle.batch.specs.declared.Batch.{Batch}
use Rattle.batch.specs.Batch.{batch_of}
use Rattle.batch.proofs.BatchLaws.{batch_refused}
use Rattle.table.specs.Table.{TableCall, table_of}
use Rattle.plot.specs.Plot.{box_plot_of}
use Rattle.bracket.specs.Bracket.{bracket_of}
use Rattle.shift.specs.Shift.{shift_of}
use Rattle.write.specs.Printed.{Printed, lines, refused_by, report_of}
use Rattle.table_report.specs.TableReport.{table_printed}
use Rattle.monitor_report.specs.MonitorReport.{monitor_printed}
use Rattle.weights_report.specs.WeightsReport.{weights_printed}
use Rattle.codes.specs.Codes.{check_code}
use Rattle.call_arrays.specs.BatchArrays.{batch_checked}
use Rattle.capi.specs.MonitorCall.{zone_after, ZoneCall, state_after, points_after, answer_after, StepCall}
use Rattle.capi.specs.BatchCall.{BatchCall}
use Rattle.capi.specs.TableCall.{figures_after, TableCalled}
use Rattle.capi.specs.BracketCall.{bracket_after, BracketCalled}
use Rattle.capi.specs.PlotCall.{kinds_after, values_after, PlotCalled}
use Rattle.capi.specs.ShiftCall.{weights_after, ShiftCall}
use Rattle.capi.specs.ReportCall.{printed_checked, count_after}
use Rattle.claims.proofs.RefusedCallLaws.{refused_table_keeps, refused_summary_keeps, refused_plot_keeps}
use Rattle.code_claims.proofs.ExportedLaws.{batch_checked_lem}
use Rattle.demands.specs.Kept.{ReportKeeps, OperationsKeep, ReportCallKeeps, ExportedKeep}

-- ---- the operations

batch_keeps : (l : RuleList) (m : Monitor) (centre : ℤ) (sigma : ℕ) (xs : List ℤ) (x : Refusal)
    → batch_checked (batch_of l m centre sigma xs) ≡ Err x → (batch_of l m centre sigma xs).next ≡ m
batch_keeps l m centre sigma xs x e =
    ap (λ (b : Batch Refusal). b.next) (batch_refused l m centre sigma xs x (sym (batch_checked_lem l m centre sigma xs) ∙ e))

report_keeps : (p : Printed) → ReportKeeps p
report_keeps (lines bytes) out x e = absurd (let z : ◌≡◌ {A = ℕ} 0 1 = cc in omega arith)
report_keeps (refused_by y) out x e = refl

pub operations_keep : OperationsKeep
operations_keep = record {
  table = refused_table_keeps;
  summary = refused_summary_keeps;
  plot = refused_plot_keeps;
  step = λ l m z x e. rw e;
  batch = batch_keeps;
  table_report = λ s. report_keeps (table_printed s);
  monitor_report = λ s. report_keeps (monitor_printed s);
  weights_report = λ s. report_keeps (weights_printed s);
}

-- ---- the exported functions

zone_keeps : {reading centre : ℤ} {sigma : ℕ} {z z' : List ℕ} {r : ℕ} → ZoneCall reading centre sigma z z' r
    → (r ≡ 0 → ⊥) → z' ≡ z
zone_keeps {reading} {centre} {sigma} {z} {r = r} c n = c.zone ∙ go (zone_of reading centre sigma) c.code
  where
    go : (a : Result ℕ Refusal) → r ≡ check_code (checked a) → zone_after a z ≡ z
    go (Ok k) e = absurd (n e)
    go (Err x) e = refl

step_keeps : {l : RuleList} {m : Monitor} {z : ℕ} {s p a s' p' a' : List ℕ} {r : ℕ} → StepCall l m z s p a s' p' a' r
    → (r ≡ 0 → ⊥)
    → (s' ≡ s) × (p' ≡ p) × (a' ≡ a)
step_keeps {l} {m} {z} {s} {p} {a} {r = r} c n = rw (c.state, c.points, c.answer) (go (step_of l m z) c.code)
  where
    go : (b : Result Step Refusal) → r ≡ check_code (checked b) → (state_after b s ≡ s) × (points_after b p ≡ p)
        × (answer_after b a ≡ a)
    go (Ok (Step.Quiet count next)) e = absurd (n e)
    go (Ok (Step.Signal count mask next)) e = absurd (n e)
    go (Err x) e = (refl, refl, refl)

batch_call_keeps : {b : Batch Refusal} {s p a s' p' a' : List ℕ} {r : ℕ} → BatchCall b s p a s' p' a' r → (r ≡ 0 → ⊥)
    → (s' ≡ s) × (p' ≡ p) × (a' ≡ a)
batch_call_keeps {b} c n =
    let t = ne_eqb (check_code (batch_checked b)) 0 (λ e. n (c.code ∙ e)) in
    (c.state ∙ rw t, c.points ∙ rw t, c.answer ∙ rw t)

table_keeps : {t : TableCall} {f p' s' f' : List ℕ} {r : ℕ} → TableCalled t f p' s' f' r → (r ≡ 0 → ⊥)
    → (p' ≡ t.pmf_before) × (s' ≡ t.survival_before) × (f' ≡ f)
table_keeps {t} {f} {p'} {s'} {f'} c n = go (table_of t).answer refl
  where
    go : (a : Result TableFigures Refusal) → (table_of t).answer ≡ a → (p' ≡ t.pmf_before) × (s' ≡ t.survival_before) × (f' ≡ f)
    go (Ok g) e = absurd (n (c.code ∙ ap (λ a. check_code (checked a)) e))
    go (Err x) e =
        let k = refused_table_keeps t x e in
        (c.pmf_list_lem ∙ k.0, c.survival_list_lem ∙ k.1, c.figures ∙ ap (λ a. figures_after a f) e)

bracket_keeps : {pmf : List ℕ} {count p : ℕ} {a a' : List ℕ} {r : ℕ} → BracketCalled pmf count p a a' r → (r ≡ 0 → ⊥)
    → a' ≡ a
bracket_keeps {pmf} {count} {p} {a} {r = r} c n = c.answer ∙ go (bracket_of pmf count p) c.code
  where
    go : (b : Result Bracket Refusal) → r ≡ check_code (checked b) → bracket_after b a ≡ a
    go (Ok found) e = absurd (n e)
    go (Err x) e = refl

plot_keeps : {t : TableCall} {k : List ℕ} {v : List Float} {p' s' k' : List ℕ} {v' : List Float} {r : ℕ}
    → PlotCalled t k v p' s' k' v' r
    → (r ≡ 0 → ⊥) → (p' ≡ t.pmf_before) × (s' ≡ t.survival_before) × (k' ≡ k) × (v' ≡ v)
plot_keeps {t} {k} {v} {p'} {s'} {k'} {v'} c n = go (box_plot_of t).answer refl
  where
    go : (a : Result PlotRecord Refusal) → (box_plot_of t).answer ≡ a → (p' ≡ t.pmf_before) × (s' ≡ t.survival_before) × (k' ≡ k)
        × (v' ≡ v)
    go (Ok g) e = absurd (n (c.code ∙ ap (λ a. check_code (checked a)) e))
    go (Err x) e =
        let o = refused_plot_keeps t x e in (
          c.pmf_list_lem ∙ o.0,
          c.survival_list_lem ∙ o.1,
          c.kinds ∙ ap (λ a. kinds_after a k) e,
          c.values
              ∙ ap (λ a. values_after a v) e,
        )

shift_keeps : {s : ℤ} {w w' : List ℕ} {r : ℕ} → ShiftCall s w w' r → (r ≡ 0 → ⊥) → w' ≡ w
shift_keeps {s} {w} {r = r} c n = c.weights ∙ go (shift_of s) c.code
  where
    go : (b : Result ZoneWeights Refusal) → r ≡ check_code (checked b) → weights_after b w ≡ w
    go (Ok ws) e = absurd (n e)
    go (Err x) e = refl

report_call_keeps : (p : Printed) → ReportCallKeeps p
report_call_keeps p out count out' count' r c n = go p c.code c.buffer c.bytes
  where
    go : (q : Printed) → r ≡ check_code (printed_checked q) → out' ≡ (report_of q out).buffer → count'
        ≡ count_after q count → (out' ≡ out) × (count' ≡ count)
    go (lines bytes) e f g = absurd (n e)
    go (refused_by x) e f g = (f, g)

pub exported_keep : ExportedKeep
exported_keep = record {
  zone = λ c n. zone_keeps c n;
  step = λ c n. step_keeps c n;
  batch = λ c n. batch_call_keeps c n;
  table = λ c n. table_keeps c n;
  bracket = λ c n. bracket_keeps c n;
  plot = λ c n. plot_keeps c n;
  shift = λ c n. shift_keeps c n;
  table_report = λ s. report_call_keeps (table_printed s);
  monitor_report = λ s. report_call_keeps (monitor_printed s);
  weights_report = λ s. report_call_keeps (weights_printed s);
}
