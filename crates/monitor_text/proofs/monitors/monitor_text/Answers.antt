-- `monitor_text` meets its contract: each return is a case of what is read.
use native.Mathlib.Omega.{arith}
use mir.Facts.{to_z-of_z}
use mir.Syntax.{w32}
use Rattle.std.proofs.Common.{rules, ◌≡◌, ◌∙◌, Err, Some, None}
use Rattle.rules.specs.Refusal.{bad_line}
use Rattle.text.specs.RunLaws.{run_few}
use Rattle.rule_lines.specs.RuleTurnLaws.{read_few}
use Rattle.monitor_text.specs.MonitorTextLaws.{too_long_lem, other_first, bad_rule, goes_on, off_bench, whole}
use Rattle.monitor_text.proofs.monitors.monitor_text.Goals as goal

pub returns-then-text-gt-MAX_TEXT : goal.returns-then-text-gt-MAX_TEXT
returns-then-text-gt-MAX_TEXT c = too_long_lem _ (omega arith)

pub returns-in_err-first : goal.returns-in_err-first
returns-in_err-first c =
    let none : c.line_at.result ≡ None = grind arith in
    let err : c.from_residual.result ≡ Err (bad_line 1) = grind arith in
    err ∙ other_first _ (omega arith) c.line_at.ensures none

pub returns-in-Some : goal.returns-in-Some
returns-in-Some c =
    let first : c.line_at.result ≡ Some c.in_ok-first.first = grind arith in
    bad_rule _ (omega arith) c.line_at.ensures first c.read_rules-read.ensures c.in-Some.is

pub overflow_add-result : goal.overflow_add-result
overflow_add-result c =
    let a = read_few _ _ _ c.read_rules-read.ensures in
    omega (arith, a, run_few _ _ _ _ _ _ c.run_at-run.ensures, c.if-text-gt-MAX_TEXT.false)

pub returns-then-run-text : goal.returns-then-run-text
returns-then-run-text c =
    let first : c.line_at.result ≡ Some c.in_ok-first.first = grind arith in
    goes_on _ (omega (arith, c.if-text-gt-MAX_TEXT.false)) c.line_at.ensures first c.read_rules-read.ensures _ c.run_at-run.ensures c.if-run-text.true

pub overflow_add-result-then-good-count : goal.overflow_add-result-then-good-count
overflow_add-result-then-good-count c =
    let a = read_few _ _ _ c.read_rules-read.ensures in
    omega (arith, a, run_few _ _ _ _ _ _ c.run_at-run.ensures, c.if-text-gt-MAX_TEXT.false, c.if-good-count.true)

pub returns-then-good-count : goal.returns-then-good-count
returns-then-good-count c =
    let first : c.line_at.result ≡ Some c.in_ok-first.first = grind arith in
    off_bench _ (omega (arith, c.if-text-gt-MAX_TEXT.false)) c.line_at.ensures first c.read_rules-read.ensures c.run_at-run.ensures c.if-run-text.false c.if-good-count.true

pub returns : goal.returns
returns c =
    let first : c.line_at.result ≡ Some c.in_ok-first.first = grind arith in
    whole _ (omega (arith, c.if-text-gt-MAX_TEXT.false)) c.line_at.ensures first c.read_rules-read.ensures c.run_at-run.ensures
    (to_z-of_z {w = w32} (search rules) ∙ c.signed_value.ensures) c.if-run-text.false c.if-good-count.false
