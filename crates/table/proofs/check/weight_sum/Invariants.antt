-- `check::weight_sum` meets its contract: the weights so far, each below 2^32.
use Rattle.std.proofs.Common.{◌≡◌, ◌≤◌, ◌*◌}
use Rattle.rules.specs.Bounds.{max_number}
use Rattle.runlength.specs.Sum.{sum, at}
use Rattle.table.proofs.check.weight_sum.Given as goal

abbrev pub invariant-loop-weight : goal.invariant-loop-weight
invariant-loop-weight l = (l.total ≡ sum l.weight-index (at l.weights)) × (l.total ≤ l.weight-index * max_number)
