-- `put_totals` meets its contract. The invariant is `TotalsWritten`: the totals of the nodes below k are written.
use mathlib.Core.Path.{◌≡◌}
use Rattle.monitor_report.specs.TotalsWrittenLaws.{TotalsWritten}
use Rattle.monitor_report.proofs.nodes.put_totals.Given as goal

abbrev pub invariant-loop-k : goal.invariant-loop-k
invariant-loop-k l = record {
  same_buffer : l.w.out.ghost_name ≡ l.initial.w.out.ghost_name;
  totals : TotalsWritten l.initial.w.out.now l.initial.w.at l.node-items l.w.out.now l.w.at l.k;
}
