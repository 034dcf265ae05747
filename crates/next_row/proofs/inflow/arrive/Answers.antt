-- `inflow::arrive` meets its contract: after each turn what the groups to before g send is in the two words.
use Prim.Native.Nat.{◌+◌}
use native.Mathlib.Omega.{arith}
use Rattle.next_row.specs.ArrivalsLaws.{group_can, arrive_more, arrive_done}
use Rattle.next_row.proofs.inflow.arrive.Goals as goal

pub weigh-by-requires : goal.weigh-by-requires
weigh-by-requires c = group_can c.requires (omega arith) c.from-first.ensures c.from-last.ensures

pub loop-g-preserved : goal.loop-g-preserved
loop-g-preserved c = arrive_more c.args.t c.requires (omega arith) c.from-first.ensures c.from-last.ensures c.loop-g.invariant c.weigh-by.ensures

pub returns : goal.returns
returns c = arrive_done c.args.t c.requires (omega (arith, c.requires.rise c.args.t (c.args.t + 1) (omega arith) (omega arith))) c.loop-g.invariant
