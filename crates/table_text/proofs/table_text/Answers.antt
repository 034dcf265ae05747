-- `table_text` meets its contract: each return is a case of what is read.
use native.Mathlib.Omega.{arith}
use Rattle.std.proofs.Common.{◌≡◌, ◌∙◌, Err, Some, None}
use Rattle.rules.specs.Refusal.{bad_line}
use Rattle.rule_lines.specs.RuleTurnLaws.{read_few}
use Rattle.table_text.specs.TableTextLaws.{too_long_lem, other_first, bad_rule, other_last, goes_on, whole}
use Rattle.table_text.proofs.table_text.Goals as goal

pub returns-then-text-gt-MAX_TEXT : goal.returns-then-text-gt-MAX_TEXT
returns-then-text-gt-MAX_TEXT c = too_long_lem _ (omega arith)

pub returns-in_err-first : goal.returns-in_err-first
returns-in_err-first c =
    let none : c.line_at.result ≡ None = grind arith in
    let err : c.from_residual.result ≡ Err (bad_line 1) = grind arith in
    err ∙ other_first _ (omega arith) c.line_at.ensures none

pub returns-in-Some : goal.returns-in-Some
returns-in-Some c =
    let first : c.line_at.result ≡ Some c.in_ok-first.first = grind arith in
    bad_rule _ (omega arith) c.line_at.ensures first c.read_rules-read.ensures c.in-Some.is

pub returns-in_err-last : goal.returns-in_err-last
returns-in_err-last c =
    let first : c.line_at.result ≡ Some c.in_ok-first.first = grind arith in
    let none : c.line_at-2.result ≡ None = grind arith in
    let err : c.from_residual-in_err-last.result ≡ Err (bad_line c.read_rules-read.result.line) = grind arith in
    err ∙ other_last _ (omega arith) c.line_at.ensures first c.read_rules-read.ensures c.line_at-2.ensures none

pub overflow_add-result : goal.overflow_add-result
overflow_add-result c = omega (arith, read_few _ _ _ c.read_rules-read.ensures)

pub returns-then-last-text : goal.returns-then-last-text
returns-then-last-text c =
    let first : c.line_at.result ≡ Some c.in_ok-first.first = grind arith in
    let last : c.line_at-2.result ≡ Some c.in_ok-last.last = grind arith in
    goes_on _ (omega arith) c.line_at.ensures first c.read_rules-read.ensures c.line_at-2.ensures last (omega arith)

pub returns : goal.returns
returns c =
    let first : c.line_at.result ≡ Some c.in_ok-first.first = grind arith in
    let last : c.line_at-2.result ≡ Some c.in_ok-last.last = grind arith in
    whole _ (omega arith) c.line_at.ensures first c.read_rules-read.ensures c.line_at-2.ensures last (omega arith)
