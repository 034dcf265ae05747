-- `flow::make_row` meets its contract: after each turn the first t states have their new units.
use native.Mathlib.Omega.{arith}
use Rattle.next_row.specs.ArrivalsLaws.{flows_upto}
use Rattle.next_row.proofs.OneRowLaws.{fill_start, round_can, fill_more, stretch_can}
use Rattle.next_row.proofs.flow.make_row.Goals as goal

pub stretch-moved-requires : goal.stretch-moved-requires
stretch-moved-requires c =
    stretch_can c.requires (omega arith) c.from-t.ensures c.requires.room (fill_start _ _ _ _ _ _)

pub arrive-into-requires : goal.arrive-into-requires
arrive-into-requires c = flows_upto c.requires.flows (omega arith)

pub round_down-here-requires : goal.round_down-here-requires
round_down-here-requires c = round_can c.requires.flows (omega arith) c.loop-t.invariant.filled c.arrive-into.ensures (omega arith)

pub stretch-moved-requires-in-loop-t : goal.stretch-moved-requires-in-loop-t
stretch-moved-requires-in-loop-t c =
    stretch_can c.requires (omega arith) c.from-stop.ensures (omega arith)
    (fill_more c.requires.flows (omega arith) c.loop-t.invariant.filled c.arrive-into.ensures (omega arith) c.round_down-here.ensures)
