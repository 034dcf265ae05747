-- `monitors::catrovindy_zone` meets its contract: by the zone's answer.
use mathlib.Core.Path.{refl}
use mir.Facts.{to_z-of_z}
use Rattle.capi.specs.MonitorCallLaws.{zone_call}
use Rattle.capi.proofs.monitors.catrovindy_zone.Goals as goal

pub returns-in-Err : goal.returns-in-Err
returns-in-Err c =
    let a = c.args in
    zone_call (to_z-of_z c.ranges.reading) (to_z-of_z c.ranges.centre) a.sigma a.zone.now _ _ c.zone_of.result _ c.zone_of.ensures c.in-Err.is c.code.ensures refl

pub returns-in-Ok : goal.returns-in-Ok
returns-in-Ok c =
    let a = c.args in
    zone_call (to_z-of_z c.ranges.reading) (to_z-of_z c.ranges.centre) a.sigma a.zone.now _ _ c.zone_of.result _ c.zone_of.ensures c.in-Ok.is refl refl
