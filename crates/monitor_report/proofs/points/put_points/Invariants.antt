-- `points::put_points` meets its contract. The invariant: the points charted and written, each node as its own points left it, and what is left to read.
use Prim.Native.Nat.{◌-◌}
use mathlib.Core.Path.{◌≡◌}
use lib.ListN.{length}
use Rattle.rules.specs.Check.{active_rules}
use Rattle.monitor_report.specs.BenchWritten.{BenchWritten}
use Rattle.monitor_report.proofs.points.put_points.Given as goal

abbrev pub invariant-loop-read : goal.invariant-loop-read
invariant-loop-read l = record {
  same_buffer : l.w.out.ghost_name ≡ l.initial.w.out.ghost_name;
  bench : BenchWritten l.text l.at (active_rules l.list) l.chart.centre l.chart.sigma l.initial.w.out.now l.w.out.now l.nodes l.i l.w.at;
}

abbrev pub decreases-loop-read : goal.decreases-loop-read
decreases-loop-read l = length l.text - l.i
