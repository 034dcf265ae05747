-- CLAIMS: the code of every exported function decodes. Of every call that meets its function's contract, as each call does: the code is 0 exactly
-- where the operation accepts, and else has the number and the place of its refusal, which is one of the function's own numbers and no other.
use Rattle.std.specs.Prelude.{ℕ, ◌≤◌, ◌≡◌, List, Float, ℤ}
use Rattle.std.proofs.Common.{◌∙◌, arith, ne_eqb}
use Rattle.rules.specs.declared.RuleList.{RuleList}
use Rattle.rules.specs.Check.{checked, check_of}
use Rattle.rules.specs.Numbers.{rule_numbers}
use Rattle.monitor.specs.declared.Monitor.{Monitor}
use Rattle.monitor.specs.Zone.{zone_of}
use Rattle.monitor.specs.Step.{step_of}
use Rattle.monitor.specs.Reading.{reading_check}
use Rattle.rules.specs.declared.refusal.Refusal.{Refusal}
use Rattle.batch.specs.declared.Batch.{Batch}
use Rattle.batch.specs.Batch.{batch_of}
use Rattle.table.specs.Table.{TableCall, table_check}
use Rattle.bracket.specs.Bracket.{bracket_of}
use Rattle.shift.specs.Shift.{shift_of}
use Rattle.table_report.specs.TableReport.{table_printed}
use Rattle.monitor_report.specs.MonitorReport.{monitor_printed}
use Rattle.weights_report.specs.WeightsReport.{weights_printed}
use Rattle.codes.specs.Codes.{check_code}
use Rattle.capi.specs.MonitorCall.{ZoneCall, StepCall}
use Rattle.capi.specs.BatchCall.{BatchCall}
use Rattle.capi.specs.TableCall.{TableCalled}
use Rattle.capi.specs.BracketCall.{BracketCalled}
use Rattle.capi.specs.PlotCall.{PlotCalled}
use Rattle.capi.specs.ShiftCall.{ShiftCall}
use Rattle.capi.specs.ReportCall.{printed_checked, ReportCall}
use Rattle.table_claims.specs.TableOutput.{table_numbers}
use Rattle.monitor_claims.specs.MonitorOutput.{monitor_numbers}
use Rattle.weights_claims.specs.WeightsTexts.{weights_numbers}
use Rattle.code_claims.specs.Coded.{Coded}
use Rattle.code_claims.specs.Coded.{zone_numbers, step_numbers, batch_numbers, list_numbers, bracket_numbers, shift_numbers}
use Rattle.code_claims.proofs.ExportedLaws.{check_says, zone_says, step_says, batch_says, table_says, plot_says, bracket_says, shift_says, table_report_says, monitor_report_says, weights_report_says, same_code}

-- `catrovindy_check`
pub check_code_lem : (l : RuleList) (r : ℕ) → r ≡ check_code (check_of l) → Coded rule_numbers (check_of l) r
check_code_lem l r e = same_code rule_numbers (check_of l) e (check_says l)

-- `catrovindy_zone`
pub zone_code : {reading centre : ℤ} {sigma : ℕ} {z z' : List ℕ} {r : ℕ} → ZoneCall reading centre sigma z z' r
    → Coded zone_numbers (checked (zone_of reading centre sigma)) r
zone_code {reading} {centre} {sigma} call =
    same_code zone_numbers (checked (zone_of reading centre sigma)) call.code (zone_says reading centre sigma)

-- `catrovindy_step`
pub step_code : {l : RuleList} {m : Monitor} {z : ℕ} {s p a s' p' a' : List ℕ} {r : ℕ} → StepCall l m z s p a s' p' a' r
    → Coded step_numbers (checked (step_of l m z)) r
step_code {l} {m} {z} call = same_code step_numbers (checked (step_of l m z)) call.code (step_says l m z)

-- `catrovindy_batch`: it is refused exactly as any first reading would be, also where there is none
pub batch_code : (l : RuleList) (m : Monitor) (centre : ℤ) (sigma : ℕ) (xs : List ℤ) {s p a s' p' a' : List ℕ} {r : ℕ}
    → BatchCall (batch_of l m centre sigma xs) s p a s' p' a' r → Coded batch_numbers (reading_check l m sigma) r
batch_code l m centre sigma xs call =
    same_code batch_numbers (reading_check l m sigma) call.code (batch_says l m centre sigma xs)

-- and never by 7, nor by anything else, once a reading was taken
pub batch_taken_code : {b : Batch Refusal} {s p a s' p' a' : List ℕ} {r : ℕ} → BatchCall b s p a s' p' a' r → 1 ≤ b.taken → r ≡ 0
batch_taken_code {b} call t = call.code ∙ rw (ne_eqb b.taken 0 (λ z. omega arith))

-- `catrovindy_table`
pub table_code : {t : TableCall} {f p' s' f' : List ℕ} {r : ℕ} → TableCalled t f p' s' f' r → Coded list_numbers (table_check t) r
table_code {t} call = same_code list_numbers (table_check t) call.code (table_says t)

-- `catrovindy_bracket`
pub bracket_code : {pmf : List ℕ} {count p : ℕ} {a a' : List ℕ} {r : ℕ} → BracketCalled pmf count p a a' r
    → Coded bracket_numbers (checked (bracket_of pmf count p)) r
bracket_code {pmf} {count} {p} call =
    same_code bracket_numbers (checked (bracket_of pmf count p)) call.code (bracket_says pmf count p)

-- `catrovindy_plot`
pub plot_code : {t : TableCall} {k : List ℕ} {v : List Float} {p' s' k' : List ℕ} {v' : List Float} {r : ℕ} → PlotCalled t k v p' s' k' v' r
    → Coded list_numbers (table_check t) r
plot_code {t} call = same_code list_numbers (table_check t) call.code (plot_says t)

-- `catrovindy_shift_weights`
pub shift_code : {s : ℤ} {w w' : List ℕ} {r : ℕ} → ShiftCall s w w' r → Coded shift_numbers (checked (shift_of s)) r
shift_code {s} call = same_code shift_numbers (checked (shift_of s)) call.code (shift_says s)

-- `catrovindy_table_report`
pub table_report_code : (s : List ℕ) {out count out' count' : List ℕ} {r : ℕ} → ReportCall (table_printed s) out count out' count' r
    → Coded table_numbers (printed_checked (table_printed s)) r
table_report_code s call = same_code table_numbers (printed_checked (table_printed s)) call.code (table_report_says s)

-- `catrovindy_monitor_report`
pub monitor_report_code : (s : List ℕ) {out count out' count' : List ℕ} {r : ℕ} → ReportCall (monitor_printed s) out count out' count' r
    → Coded monitor_numbers (printed_checked (monitor_printed s)) r
monitor_report_code s call = same_code monitor_numbers (printed_checked (monitor_printed s)) call.code (monitor_report_says s)

-- `catrovindy_weights_report`
pub weights_report_code : (s : List ℕ) {out count out' count' : List ℕ} {r : ℕ} → ReportCall (weights_printed s) out count out' count' r
    → Coded weights_numbers (printed_checked (weights_printed s)) r
weights_report_code s call = same_code weights_numbers (printed_checked (weights_printed s)) call.code (weights_report_says s)
