-- What is written stands in the buffer; and a report from what was written.
use Rattle.std.specs.Prelude.{◌≡◌, refl, List, ◌++◌, ℕ, ◌+◌, ◌≤◌, length, drop, Err, Ok, Result}
use Rattle.std.proofs.Common.{sym, ap, ◌∙◌, arith, length-append, length-take-le}
use Rattle.rules.specs.Refusal.{number_of}
use Rattle.rules.specs.Refusal.{place_of}
use Rattle.rules.specs.declared.refusal.Refusal.{Refusal}
use Rattle.write.specs.Wrote.{Wrote}
use Rattle.write.specs.Refused.{refused_line}
use Rattle.write.specs.AnswerStands.{AnswerStandsBy, AnswerStands}
use Rattle.write.specs.Printed.{Printed, lines, refused_by, printed_bytes, OutputIs, Report, report, report_of}

-- a refusal, or the lines and where they end
pub as_refused : {p : Printed} (x : Refusal) (out : List ℕ) → p ≡ refused_by x → report (Err x) out ≡ report_of p out
as_refused x out e = sym (ap (λ (y : Printed). report_of y out) e)

pub as_written : {p : Printed} {bytes : List ℕ} (out out' : List ℕ) (r : ℕ) → p ≡ lines bytes → Wrote out 0 out' r bytes → report (Ok r) out' ≡ report_of p out
as_written {p} {bytes} out out' r e w =
    let n : 0 + length bytes ≡ length bytes = omega arith in
    ap (λ (x : ℕ). report (Ok x) out') (w.end ∙ n)
    ∙ ap (λ (y : List ℕ). report (Ok (length bytes)) y) (w.whole ∙ ap (λ (k : ℕ). bytes ++ drop k out) n)
    ∙ sym (ap (λ (y : Printed). report_of y out) e)

-- ---- all that a program writes: what a report wrote, or the line of its refusal

output_is : {before after : List ℕ} {n : ℕ} {bytes : List ℕ} → n ≡ length bytes → after ≡ bytes ++ drop n before → OutputIs before after n bytes
output_is {before} {after} {n} {bytes} c b =
    let w : n ≤ length after = omega (arith, ap length b, length-append bytes (drop n before)) in
    record { count = c; buffer = b; within = w; front = sym (length-take-le n after w) }

-- the answer, case by case
module _ {R : Type 0} (number place : R → ℕ) {a : Result ℕ R} where
  pub stands_written : {n : ℕ} (out : List ℕ) → a ≡ Ok n → AnswerStandsBy number place a out out n
  stands_written out e = rw e (refl, refl)

  pub stands_refused : {x : R} {out out' : List ℕ} {r : ℕ} → a ≡ Err x → Wrote out 0 out' r (refused_line (number x) (place x))
      → AnswerStandsBy number place a out out' r
  stands_refused e w = rw e w

pub output_by : (p : Printed) {out out' out'' : List ℕ} {r : ℕ} (a : Result ℕ Refusal) → report a out' ≡ report_of p out → AnswerStands a out' out'' r
    → OutputIs out out'' r (printed_bytes p)
unfolding printed_bytes
output_by (lines bytes) {out} {out'} {out''} {r} (Ok n) e s =
    let answer : Ok n ≡ Ok (length bytes) = ap (λ (x : Report). x.answer) e in
    let count : r ≡ length bytes = cc s.0 in
    output_is count (s.1 ∙ rw count (ap (λ (x : Report). x.buffer) e))
output_by (lines bytes) (Err x) e s =
    let answer : Err x ≡ Ok (length bytes) = ap (λ (y : Report). y.answer) e in
    let z : ◌≡◌ {A = ℕ} 0 1 = cc in
    absurd (omega arith)
output_by (refused_by y) (Ok n) e s =
    let answer : Ok n ≡ Err y = ap (λ (x : Report). x.answer) e in
    let z : ◌≡◌ {A = ℕ} 0 1 = cc in
    absurd (omega arith)
output_by (refused_by y) {out} {out'} {out''} {r} (Err x) e s =
    let answer : Err x ≡ Err y = ap (λ (z : Report). z.answer) e in
    let same : x ≡ y = cc in
    let kept : out' ≡ out = ap (λ (z : Report). z.buffer) e in
    let count : r ≡ length (refused_line (number_of x) (place_of x)) = omega (arith, s.end) in
    let end : 0 + length (refused_line (number_of x) (place_of x)) ≡ r = omega arith in
    rw (← same) (output_is count (rw (← kept) (rw end at s.whole)))
