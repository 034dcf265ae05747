-- `monitor_report::monitor_report` meets its contract: the text's refusal, the rules', sigma's, or the points' lines.
use Rattle.std.proofs.Common.{rules, ◌≡◌, sym, ◌∙◌, length, arith, Err, to_z, of_z, w32}
use Rattle.rules.proofs.CheckLaws.{accepted, between}
use Rattle.monitor.specs.Zone.{min_sigma, max_sigma}
use Rattle.monitor_report.specs.Points.{monitor_room}
use Rattle.monitor_report.proofs.MonitorReportLaws.{monitor_refused, rules_refused, sigma_refused, text_short, points_bench, points_few, points_written}
use Rattle.monitor_report.proofs.monitors.monitor_report.Goals as goal

pub returns-in_err-read : goal.returns-in_err-read
returns-in_err-read c =
    let a = c.args in
    let r : c.from_residual.result ≡ Err c.in_err-read.field-0.0 = search rules in
    rw r (monitor_refused a.text.now a.out.now _ (sym c.monitor_text.ensures ∙ c.in_err-read.was))

pub returns-in_err-check : goal.returns-in_err-check
returns-in_err-check c =
    let a = c.args in
    let r : c.from_residual-in_err-check.result ≡ Err c.in_err-check.field-0.0 = search rules in
    rw r (rules_refused a.text.now a.out.now (sym c.monitor_text.ensures ∙ c.in_ok-read.was) _ (sym c.check.ensures ∙ c.in_err-check.was))

pub returns-then-not-sigma_fits : goal.returns-then-not-sigma_fits
returns-then-not-sigma_fits c =
    let a = c.args in
    sigma_refused a.text.now a.out.now (sym c.monitor_text.ensures ∙ c.in_ok-read.was) (sym c.check.ensures ∙ c.in_ok-check.was)
    (sym c.if-not-sigma_fits.ensures)

pub put_points-requires : goal.put_points-requires
put_points-requires c =
    let a = c.args in
    let read = sym c.monitor_text.ensures ∙ c.in_ok-read.was in
    let ok = sym c.check.ensures ∙ c.in_ok-check.was in
    let fits = sym c.if-not-sigma_fits.ensures in
    let b = accepted c.in_ok-read.read.list ok in
    let short = text_short a.text.now a.out.now read ok fits in
    let few = points_few a.text.now a.out.now read ok fits in
    let size : length a.out.now ≡ monitor_room = search rules in
    record {
      len_le_max_rules = (b.1, b.2);
      min_sigma_le_sigma = between min_sigma max_sigma c.in_ok-read.read.sigma fits;
      text_len_bound = short;
      on_bench = points_bench a.text.now a.out.now read ok fits;
      node_count_in_bounds = omega (arith, few, short, size);
    }

pub returns : goal.returns
returns c =
    let a = c.args in
    let read = sym c.monitor_text.ensures ∙ c.in_ok-read.was in
    let ok = sym c.check.ensures ∙ c.in_ok-check.was in
    let centre : to_z w32 (of_z w32 c.in_ok-read.read.centre) ≡ c.in_ok-read.read.centre = search rules in
    points_written a.text.now a.out.now read ok (sym c.if-not-sigma_fits.ensures) centre _ _ c.put_points.ensures
