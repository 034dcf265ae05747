-- A call of a report, by the answer of the operation.
use Rattle.std.specs.Prelude.{◌≡◌, List, ℕ, length, Err, Ok, Result}
use Rattle.std.proofs.Common.{ap, ◌∙◌}
use Rattle.rules.specs.Check.{checked}
use Rattle.rules.specs.declared.refusal.Refusal.{Refusal}
use Rattle.write.specs.Printed.{Printed, lines, refused_by, Report, report, report_of}
use Rattle.call_arrays.specs.ReportArrays.{answer_count}
use Rattle.capi.specs.ReportCall.{ReportCall}
use Rattle.codes.specs.Codes.{check_code}

-- a is the report's answer
pub report_call_lem : (p : Printed) (out count out' count' : List ℕ) (a : Result ℕ Refusal) (r : ℕ) → report a out' ≡ report_of p out
    → r ≡ check_code (checked a) → count' ≡ answer_count a count → ReportCall p out count out' count' r
report_call_lem (lines bytes) out count out' count' a r e code after =
    let answer : a ≡ Ok (length bytes) = ap (λ (x : Report). x.answer) e in
    record { code = code ∙ ap (λ (x : Result ℕ Refusal). check_code (checked x)) answer; buffer = ap (λ (x : Report). x.buffer) e; bytes = after ∙ ap (λ (x : Result ℕ Refusal). answer_count x count) answer }
report_call_lem (refused_by y) out count out' count' a r e code after =
    let answer : a ≡ Err y = ap (λ (x : Report). x.answer) e in
    record { code = code ∙ ap (λ (x : Result ℕ Refusal). check_code (checked x)) answer; buffer = ap (λ (x : Report). x.buffer) e; bytes = after ∙ ap (λ (x : Result ℕ Refusal). answer_count x count) answer }
