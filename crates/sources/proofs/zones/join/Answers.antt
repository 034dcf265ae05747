-- `zones::join` meets its contract: after z turns the weights of the first z zones are joined.
use native.Mathlib.Omega.{arith}
use Rattle.sources.specs.AlikeZonesLaws.{join_start, join_room, join_more}
use Rattle.sources.proofs.zones.join.Goals as goal

pub loop-z-init : goal.loop-z-init
loop-z-init c = search join_start

pub overflow_add-joined : goal.overflow_add-joined
overflow_add-joined c = omega (arith, join_room c.requires c.loop-z-test.true c.loop-z.invariant c.first_alike-a.ensures)

pub loop-z-preserved : goal.loop-z-preserved
loop-z-preserved c = search join_more
