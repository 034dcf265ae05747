-- What each code says, by the definition that the function's contract is an equation with. Laws.
use Rattle.std.specs.Prelude.{ℕ, ◌≡◌, refl, List, Bool, true, false, cond, eqb, ℤ, Err, Ok}
use Rattle.std.proofs.Common.{sym, ap, ◌∙◌, arith, ne_eqb}
use Rattle.rules.specs.Refusal.{number_of, place_of}
use Rattle.rules.specs.declared.RuleList.{RuleList}
use Rattle.rules.specs.declared.refusal.Refusal.{Refusal}
use Rattle.rules.specs.Check.{checked, Checked, unless, check_of}
use Rattle.rules.specs.Numbers.{OneOf, rule_numbers}
use Rattle.rules.proofs.NumbersLaws.{not_both, list_number}
use Rattle.monitor.specs.declared.Monitor.{Monitor}
use Rattle.monitor.specs.Zone.{zone_of}
use Rattle.monitor.specs.Step.{step_of}
use Rattle.monitor.specs.Reading.{reading_check}
use Rattle.batch.specs.declared.Batch.{Batch}
use Rattle.batch.specs.Batch.{batch_of, Ends, unrefused as unrefused_lem, full}
use Rattle.batch.proofs.BatchLaws.{batch_refused, batch_ends}
use Rattle.table.specs.Table.{TableCall, table_check, table_of}
use Rattle.bracket.specs.Bracket.{bracket_of}
use Rattle.plot.specs.Plot.{box_plot_of}
use Rattle.shift.specs.Shift.{shift_of}
use Rattle.write.specs.Printed.{Printed, lines, refused_by, printed_bytes}
use Rattle.table_report.specs.TableReport.{table_printed}
use Rattle.monitor_report.specs.MonitorReport.{monitor_printed}
use Rattle.weights_report.specs.WeightsReport.{weights_printed}
use Rattle.write.specs.Refused.{refused_line}
use Rattle.codes.specs.Codes.{check_code}
use Rattle.call_arrays.specs.BatchArrays.{batch_checked, unrefused}
use Rattle.capi.specs.ReportCall.{printed_checked}
use Rattle.table_claims.specs.TableOutput.{table_numbers}
use Rattle.table_claims.proofs.TableNumbers.{table_refusals}
use Rattle.monitor_claims.specs.MonitorOutput.{monitor_numbers}
use Rattle.monitor_claims.proofs.MonitorNumbers.{monitor_refusals}
use Rattle.weights_claims.specs.WeightsTexts.{weights_numbers}
use Rattle.weights_claims.specs.WeightsNumbers.{weights_refusals}
use Rattle.code_claims.specs.Coded.{Coded}
use Rattle.code_claims.specs.Coded.{zone_numbers, step_numbers, batch_numbers, list_numbers, bracket_numbers, shift_numbers}
use Rattle.code_claims.proofs.CodedLaws.{all_fit, some_number, coded, zone_number, step_number, batch_number, table_number, bracket_number, shift_number, table_coded, plot_coded}

-- ---- what each code says, by the definition that the contract is an equation with

pub check_says : (l : RuleList) → Coded rule_numbers (check_of l) (check_code (check_of l))
unfolding all_fit
check_says l = coded rule_numbers (check_of l) _ refl (list_number l) refl

pub zone_says : (reading centre : ℤ) (sigma : ℕ)
    → Coded zone_numbers (checked (zone_of reading centre sigma)) (check_code (checked (zone_of reading centre sigma)))
unfolding all_fit
zone_says reading centre sigma =
    coded zone_numbers (checked (zone_of reading centre sigma)) _ refl (zone_number reading centre sigma) refl

pub step_says : (l : RuleList) (m : Monitor) (z : ℕ) → Coded step_numbers (checked (step_of l m z)) (check_code (checked (step_of l m z)))
unfolding all_fit
step_says l m z = coded step_numbers (checked (step_of l m z)) _ refl (step_number l m z) refl

-- a batch is refused exactly as any first reading would be, also where there is none
pub batch_checked_lem : (l : RuleList) (m : Monitor) (centre : ℤ) (sigma : ℕ) (xs : List ℤ) → batch_checked (batch_of l m centre sigma xs) ≡ reading_check l m sigma
unfolding all_fit
batch_checked_lem l m centre sigma xs = go (reading_check l m sigma) refl
  where
    ended : (b : Batch Refusal) → Ends b → batch_checked b ≡ Ok tt
    ended b (unrefused_lem e) = go (eqb b.taken 0)
      where
        go : (t : Bool) → cond t (unrefused b.refusal) (Ok tt) ≡ Ok tt
        go true = rw e
        go false = refl
    ended b (full e t c) = rw (ne_eqb b.taken 0 (λ z. omega arith))

    go : (c : Checked) → reading_check l m sigma ≡ c → batch_checked (batch_of l m centre sigma xs) ≡ reading_check l m sigma
    go (Ok _) e = ended (batch_of l m centre sigma xs) (batch_ends l centre sigma m xs e) ∙ sym e
    go (Err x) e =
        rw (batch_refused l m centre sigma xs x e) (sym e)

pub batch_says : (l : RuleList) (m : Monitor) (centre : ℤ) (sigma : ℕ) (xs : List ℤ)
    → Coded batch_numbers (reading_check l m sigma) (check_code (batch_checked (batch_of l m centre sigma xs)))
unfolding all_fit
batch_says l m centre sigma xs =
    coded batch_numbers (reading_check l m sigma) _ refl (batch_number l m sigma) (ap check_code (batch_checked_lem l m centre sigma xs))

pub table_says : (t : TableCall) → Coded list_numbers (table_check t) (check_code (checked (table_of t).answer))
unfolding all_fit
table_says t = coded list_numbers (table_check t) _ refl (table_number t) (table_coded t)

pub plot_says : (t : TableCall) → Coded list_numbers (table_check t) (check_code (checked (box_plot_of t).answer))
unfolding all_fit
plot_says t = coded list_numbers (table_check t) _ refl (table_number t) (plot_coded t ∙ table_coded t)

pub bracket_says : (pmf : List ℕ) (count p : ℕ) → Coded bracket_numbers (checked (bracket_of pmf count p)) (check_code (checked (bracket_of pmf count p)))
unfolding all_fit
bracket_says pmf count p = coded bracket_numbers (checked (bracket_of pmf count p)) _ refl (bracket_number pmf count p) refl

pub shift_says : (s : ℤ) → Coded shift_numbers (checked (shift_of s)) (check_code (checked (shift_of s)))
unfolding all_fit
shift_says s = coded shift_numbers (checked (shift_of s)) _ refl (shift_number s) refl

-- the reports: a refusal's number is one that the program prints
printed_number : (p : Printed) (ns : List ℕ) → ((n place : ℕ) → printed_bytes p ≡ refused_line n place → OneOf ns n) → (x : Refusal)
    → printed_checked p ≡ Err x → OneOf ns (number_of x)
unfolding printed_bytes
printed_number (lines bytes) ns f x e = not_both x e
printed_number (refused_by y) ns f x e = let same : y ≡ x = cc in rw (← same) (f (number_of y) (place_of y) refl)

pub table_report_says : (s : List ℕ) → Coded table_numbers (printed_checked (table_printed s)) (check_code (printed_checked (table_printed s)))
unfolding all_fit
table_report_says s =
    coded table_numbers (printed_checked (table_printed s)) _ refl (printed_number (table_printed s) table_numbers (table_refusals s)) refl

pub monitor_report_says : (s : List ℕ) → Coded monitor_numbers (printed_checked (monitor_printed s)) (check_code (printed_checked (monitor_printed s)))
unfolding all_fit
monitor_report_says s =
    coded monitor_numbers (printed_checked (monitor_printed s)) _ refl (printed_number (monitor_printed s) monitor_numbers (monitor_refusals s)) refl

pub weights_report_says : (s : List ℕ) → Coded weights_numbers (printed_checked (weights_printed s)) (check_code (printed_checked (weights_printed s)))
unfolding all_fit
weights_report_says s =
    coded weights_numbers (printed_checked (weights_printed s)) _ refl (printed_number (weights_printed s) weights_numbers (weights_refusals s)) refl

-- ---- the claims: of every call that meets its function's contract

pub same_code : (numbers : List ℕ) (c : Checked) {code r : ℕ} → r ≡ code → Coded numbers c code → Coded numbers c r
same_code numbers c e t = rw e t
