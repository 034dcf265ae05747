-- `search::first_reaching` meets its contract. The invariant: the sum is that of the first chances, and none of them reached the goal.
use Rattle.std.proofs.Common.{arith, sym}
use Rattle.bracket.proofs.CrossingLaws.{searched_start, next_room, searched_here, searched_on, searched_end}
use Rattle.bracket.proofs.search.first_reaching.Goals as goal

pub loop-i-init : goal.loop-i-init
loop-i-init c = searched_start c.args.pmf.now c.args.slack c.args.goal

pub overflow_add-sum : goal.overflow_add-sum
overflow_add-sum c =
    omega (arith, next_room c.args.pmf.now c.args.slack c.args.goal c.loop-i.invariant (omega arith) c.requires.0 c.requires.1)

pub overflow_add-sum-in-loop-i : goal.overflow_add-sum-in-loop-i
overflow_add-sum-in-loop-i c =
    omega (arith, next_room c.args.pmf.now c.args.slack c.args.goal c.loop-i.invariant (omega arith) c.requires.0 c.requires.1)

pub returns-then-sum-goal : goal.returns-then-sum-goal
returns-then-sum-goal c =
    sym (searched_here c.args.pmf.now c.args.slack c.args.goal c.loop-i.invariant (omega arith) (omega arith))

pub loop-i-preserved : goal.loop-i-preserved
loop-i-preserved c =
    searched_on c.args.pmf.now c.args.slack c.args.goal c.loop-i.invariant (omega arith) (omega arith)

pub returns : goal.returns
returns c =
    sym (searched_end c.args.pmf.now c.args.slack c.args.goal c.loop-i.sum c.loop-i.i c.loop-i.invariant (omega arith))
