-- `take_accepted` meets its contract. The invariant: what the readings left give is what the whole gives.
use Rattle.batch.specs.Batch.{Left}
use Rattle.batch.proofs.take_accepted.Given as goal

abbrev pub invariant-loop-i : goal.invariant-loop-i
invariant-loop-i l = Left l.list l.initial.at l.chart.centre l.chart.sigma l.readings l.at l.i
