-- `shifts::catrovindy_shift_weights` meets its contract: by the operation's answer.
use mathlib.Core.Path.{refl}
use mir.Facts.{to_z-of_z}
use Rattle.capi.specs.ShiftCallLaws.{shift_call}
use Rattle.capi.proofs.shifts.catrovindy_shift_weights.Goals as goal

pub returns-in-Err : goal.returns-in-Err
returns-in-Err c =
    let a = c.args in
    shift_call (to_z-of_z c.ranges.shift) a.weights.now _ _ c.shift_weights.result _ c.shift_weights.ensures c.in-Err.is c.code.ensures refl

pub returns-in-Ok : goal.returns-in-Ok
returns-in-Ok c =
    let a = c.args in
    shift_call (to_z-of_z c.ranges.shift) a.weights.now _ _ c.shift_weights.result _ c.shift_weights.ensures c.in-Ok.is refl c.into.ensures
