-- What the table program prints, case by case, and what an accepted table leaves for its lines. Laws.
use Rattle.std.specs.Prelude.{◌≡◌, refl, Bool, true, false, cond, List, ℕ, ◌≤◌, leb, length, Err, Ok, Result}
use Rattle.std.proofs.Common.{sym, ap, ◌∙◌, le_refl, arith}
use borrow.Author.Tests.{leb-true}
use Rattle.rules.specs.declared.refusal.Refusal.{Refusal}
use Rattle.runlength.specs.Scale.{units_per_one}
use Rattle.runlength.specs.Chain.{cdf_of}
use Rattle.table.specs.Table.{TableCall, table_call}
use Rattle.summary.specs.declared.Summary.{Summary}
use Rattle.summary.specs.Summary.{summary_of}
use Rattle.summary.specs.AcceptedSummary.{AcceptedSummary}
use Rattle.summary.proofs.SummaryLaws.{accepted_summary}
use Rattle.write.specs.Wrote.{Wrote}
use Rattle.table_text.specs.declared.TableText.{TableText}
use Rattle.table_text.specs.TableText.{table_text}
use Rattle.table_lines.specs.LargestHorizon.{max_rows}
use Rattle.table_lines.specs.TableLines.{table_bytes}
use Rattle.write.specs.Printed.{report, report_of}
use Rattle.write.proofs.PrintedLaws.{as_refused, as_written}
use Rattle.table_lines.specs.LargestHorizon.{report_horizon}
use Rattle.table_report.specs.TableReport.{summary_lines, blank, table_printed}
use Rattle.table.specs.Table.{CallResult, call_result}

pub horizon_small : (h : ℕ) → report_horizon h ≤ max_rows
horizon_small h = go (leb h max_rows) (leb-true h max_rows)
  where
    go : (b : Bool) → (b ≡ true → h ≤ max_rows) → cond b h 0 ≤ max_rows
    go true f = f refl
    go false f = omega arith

-- ---- an accepted table can be printed

module _ (t : TableCall) {a : Result Summary Refusal} {p q : List ℕ} {s : Summary} (run : call_result a p q ≡ summary_of t) (accepted : a ≡ Ok s) where
  call : AcceptedSummary t s
  call = accepted_summary t s (ap (λ (r : CallResult (Result Summary Refusal)). r.answer) (sym run) ∙ accepted)

  pub rows_listed : (t.horizon ≤ length p) × (t.horizon ≤ length q)
  unfolding summary_of
  rows_listed = (
    rw (ap (λ (r : CallResult (Result Summary Refusal)). r.pmf_list) run) call.table.pmf_room,
    rw (ap (λ (r : CallResult (Result Summary Refusal)). r.survival_list) run) call.table.survival_room,
  )

  pub rows_total : cdf_of p t.horizon ≤ units_per_one
  unfolding summary_of
  rows_total =
      rw (ap (λ (r : CallResult (Result Summary Refusal)). r.pmf_list) run, call.table.list_cdf t.horizon (le_refl t.horizon)) call.table.total

-- ---- the report of a text

module _ (s out : List ℕ) where
  pub text_refused : (x : Refusal) → table_text s ≡ Err x → report (Err x) out ≡ report_of (table_printed s) out
  unfolding table_printed
  text_refused x e = rw e

  -- h is the program's horizon, and a the answer to it
  module _ {t : TableText} (read : table_text s ≡ Ok t) (h : ℕ) (horizon : h ≡ report_horizon t.horizon) (a : Result Summary Refusal) (p q : List ℕ)
      (run : call_result a p q ≡ summary_of (table_call t.list t.weights h blank blank)) where
    printed : table_printed s ≡ summary_lines (call_result a p q) h
    unfolding table_printed
    printed = rw (read, ← horizon, ← run)

    pub table_refused : (x : Refusal) → a ≡ Err x → report (Err x) out ≡ report_of (table_printed s) out
    table_refused x e = as_refused x out (printed ∙ ap (λ (y : Result Summary Refusal). summary_lines (call_result y p q) h) e)

    pub table_written : (f : Summary) → a ≡ Ok f → (out' : List ℕ) (r : ℕ)
        → Wrote out 0 out' r (table_bytes f h p q)
        → report (Ok r) out' ≡ report_of (table_printed s) out
    table_written f e out' r w = as_written out out' r (printed ∙ ap (λ (y : Result Summary Refusal). summary_lines (call_result y p q) h) e) w
