-- `explore` meets its contract: after k turns the two lists hold the worklist as it is after k turns.
use Rattle.std.proofs.Common.{arith}
use Rattle.states.specs.ExploreLaws.{explore_start, explore_done, explore_more, explore_over}
use Rattle.states.specs.VisitLaws.{visit_can}
use Rattle.states.proofs.worklist.explore.Goals as goal

pub loop-k-init : goal.loop-k-init
loop-k-init c = explore_start _ c.args.found.now _ _ c.requires.found_room c.requires.entries_room (omega arith)

pub visit-requires : goal.visit-requires
visit-requires c = visit_can c.requires c.loop-k.invariant (omega arith)

pub returns-in_default : goal.returns-in_default
returns-in_default c = explore_over _ c.loop-k.invariant (omega arith) c.visit.auto.found c.visit.auto.moves c.in_default.ensures

pub loop-k-preserved : goal.loop-k-preserved
loop-k-preserved c = explore_more _ c.loop-k.invariant (omega arith) c.visit.auto.found c.visit.auto.moves c.in-Some.ensures

pub returns : goal.returns
returns c = explore_done _ c.loop-k.invariant (omega arith)
