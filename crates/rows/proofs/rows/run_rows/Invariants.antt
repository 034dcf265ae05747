-- `rows::run_rows` meets its contract: after k rows the lists, the last survival and the mean are the table's to row k.
use mathlib.Core.Path.{◌≡◌}
use lib.ListN.{length}
use Rattle.rules.specs.Bounds.{max_states}
use Rattle.rows.specs.Running.{Running}
use Rattle.rows.proofs.rows.run_rows.Given as goal

abbrev pub invariant-loop-k : goal.invariant-loop-k
invariant-loop-k l = record {
  room : length l.next ≡ max_states;
  running : Running l.moves l.n l.weights l.k l.initial.pmf l.initial.survival l.now l.pmf l.survival l.totals.survival l.totals.mean_whole l.totals.mean_fraction;
}
