-- `marks::mark` meets its contract: after k turns the first k moves have their marks.
use Rattle.sources.specs.Marks.{MarkedUpTo}
use Rattle.sources.proofs.marks.mark.Given as goal

abbrev pub invariant-loop-k : goal.invariant-loop-k
invariant-loop-k l = MarkedUpTo l.moves l.n l.k l.marks
