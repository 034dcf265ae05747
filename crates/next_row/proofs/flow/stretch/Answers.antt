-- `flow::stretch` meets its contract: after each turn the first t states have their new units.
use native.Mathlib.Omega.{arith}
use Rattle.next_row.specs.ArrivalsLaws.{group_can, one_come}
use Rattle.next_row.proofs.OneRowLaws.{round_can, fill_more, stretch_in, stretch_next}
use Rattle.next_row.proofs.flow.stretch.Goals as goal

pub weigh-into-requires : goal.weigh-into-requires
weigh-into-requires c =
    let p = c.requires in
    let v = c.loop-t.invariant in
    group_can p.flows (stretch_in p (omega arith) (omega arith) v.group) v.begin c.from-last.ensures

pub round_down-moved-requires : goal.round_down-moved-requires
round_down-moved-requires c =
    let p = c.requires in
    let v = c.loop-t.invariant in
    round_can p.flows (omega arith) v.filled (one_come p.flows (omega arith) v.group (p.one c.loop-t.t (omega arith) (omega arith)) v.begin c.from-last.ensures c.weigh-into.ensures) (omega arith)

pub loop-t-preserved : goal.loop-t-preserved
loop-t-preserved c =
    let p = c.requires in
    let v = c.loop-t.invariant in
    record {
      group = stretch_next p (omega arith) (omega arith) v.group;
      begin = c.from-last.ensures;
      filled = fill_more p.flows (omega arith) v.filled (one_come p.flows (omega arith) v.group (p.one c.loop-t.t (omega arith) (omega arith)) v.begin c.from-last.ensures c.weigh-into.ensures) (omega arith) c.round_down-moved.ensures;
    }
