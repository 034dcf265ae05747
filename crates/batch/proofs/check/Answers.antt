-- `check` meets its contract: what a first reading is refused by, test by test.
use Rattle.std.proofs.Common.{rules, ◌≡◌, sym, ◌∙◌, arith, Err}
use Rattle.rules.proofs.CheckLaws.{accepted}
use Rattle.monitor.specs.Reading.{Readable}
use Rattle.monitor.proofs.ReadingLaws.{check_bad_rules, check_bad_sigma, check_bad_state, check_bad_count, check_accepted}
use Rattle.batch.proofs.check.Goals as goal

pub returns-in_err-check : goal.returns-in_err-check
returns-in_err-check c =
    let s = c.args in
    let r : c.from_residual.result ≡ Err c.in_err-check.field-0.0 = search rules in
    r ∙ sym (check_bad_rules s.list s.monitor s.chart.sigma c.in_err-check.field-0.0 (sym c.check.ensures ∙ c.in_err-check.was))

pub returns-then-not-sigma_fits : goal.returns-then-not-sigma_fits
returns-then-not-sigma_fits c =
    let s = c.args in
    sym (check_bad_sigma s.list s.monitor s.chart.sigma (sym c.check.ensures ∙ c.in_ok-check.was) (sym c.if-not-sigma_fits.ensures))

pub valid-requires : goal.valid-requires
valid-requires c = let p = accepted c.args.list (sym c.check.ensures ∙ c.in_ok-check.was) in (p.1, p.2)

pub returns-then-not-valid : goal.returns-then-not-valid
returns-then-not-valid c =
    let s = c.args in
    sym (
    check_bad_state s.list s.monitor s.chart.sigma (sym c.check.ensures ∙ c.in_ok-check.was) (sym c.if-not-sigma_fits.ensures)
    (sym c.if-not-valid.ensures))

pub returns-then-monitor-ge-MAX_NUMBER : goal.returns-then-monitor-ge-MAX_NUMBER
returns-then-monitor-ge-MAX_NUMBER c =
    let s = c.args in
    let readable : Readable s.list s.chart.sigma s.monitor = record {
      rules = sym c.check.ensures ∙ c.in_ok-check.was;
      fits = sym c.if-not-sigma_fits.ensures;
      valid = sym c.if-not-valid.ensures;
    } in
    sym (check_bad_count s.list s.monitor s.chart.sigma readable (omega arith))

pub returns : goal.returns
returns c =
    let s = c.args in
    let readable : Readable s.list s.chart.sigma s.monitor = record {
      rules = sym c.check.ensures ∙ c.in_ok-check.was;
      fits = sym c.if-not-sigma_fits.ensures;
      valid = sym c.if-not-valid.ensures;
    } in
    sym (check_accepted s.list s.monitor s.chart.sigma readable (omega arith))
