-- `Chart::zone_of` meets its contract: by sigma outside its bounds, and within them.
use Rattle.std.proofs.Common.{sym, ap, ◌∙◌, ℤ, ◌-ℤ◌, Ok}
use mir.Facts.{to_z-of_z}
use Rattle.monitor.specs.Zone.{zone_at}
use Rattle.monitor.specs.ZoneLaws.{zone_fits, zone_refused}
use Rattle.monitor.proofs.chart.Chart.zone_of.Goals as goal

pub returns-then-not-sigma_fits : goal.returns-then-not-sigma_fits
returns-then-not-sigma_fits c =
    let a = c.args in sym (zone_refused a.reading a.self.centre a.self.sigma (sym c.if-not-sigma_fits.ensures))

pub returns : goal.returns
returns c =
    let a = c.args in
    ap Ok (c.zone_at.ensures ∙ ap (λ (x : ℤ). zone_at (x -ℤ a.self.centre) a.self.sigma) (to_z-of_z c.ranges.reading))
    ∙ sym (zone_fits a.reading a.self.centre a.self.sigma (sym c.if-not-sigma_fits.ensures))
