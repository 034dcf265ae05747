-- `search::first_reaching` meets its contract. The invariant: the sum is that of the first chances, and none of them reached the goal.
use Rattle.bracket.specs.Crossing.{Searched}
use Rattle.bracket.proofs.search.first_reaching.Given as goal

abbrev pub invariant-loop-i : goal.invariant-loop-i
invariant-loop-i l = Searched l.pmf l.slack l.goal l.sum l.i
