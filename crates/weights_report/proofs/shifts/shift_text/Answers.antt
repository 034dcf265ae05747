-- `shift_text` meets its contract: each return is a case of what is read.
use native.Mathlib.Omega.{arith}
use mir.Facts.{to_z-of_z}
use mir.Syntax.{w32}
use Rattle.std.proofs.Common.{rules, ◌≡◌, ◌∙◌, Err, Some, None}
use Rattle.rules.specs.Refusal.{bad_line}
use Rattle.weights_report.specs.ShiftTextLaws.{too_long_lem, other_first, goes_on, whole}
use Rattle.weights_report.proofs.shifts.shift_text.Goals as goal

pub returns-then-text-gt-MAX_TEXT : goal.returns-then-text-gt-MAX_TEXT
returns-then-text-gt-MAX_TEXT c = too_long_lem _ (omega arith)

pub returns-in_err-first : goal.returns-in_err-first
returns-in_err-first c =
    let none : c.line_at.result ≡ None = grind arith in
    let err : c.from_residual.result ≡ Err (bad_line 1) = grind arith in
    err ∙ other_first _ (omega arith) c.line_at.ensures none

pub returns-then-first-text : goal.returns-then-first-text
returns-then-first-text c =
    let first : c.line_at.result ≡ Some c.in_ok-first.first = grind arith in
    goes_on _ (omega arith) c.line_at.ensures first (omega arith)

pub returns : goal.returns
returns c =
    let first : c.line_at.result ≡ Some c.in_ok-first.first = grind arith in
    whole _ (omega arith) c.line_at.ensures first (to_z-of_z {w = w32} (search rules) ∙ c.signed_value.ensures) (omega arith)
