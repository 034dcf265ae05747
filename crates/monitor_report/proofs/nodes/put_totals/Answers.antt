-- `put_totals` meets its contract. The invariant is `TotalsWritten`: the totals of the nodes below k are written.
use mathlib.Core.Path.{refl, ◌∙◌}
use native.Mathlib.Omega.{arith}
use Rattle.write.specs.WritesLaws.{writes}
use Rattle.monitor_report.specs.TotalsWrittenLaws.{totals_start, totals_more, totals_done}
use Rattle.monitor_report.proofs.nodes.put_totals.Goals as goal

pub loop-k-init : goal.loop-k-init
loop-k-init c = record { same_buffer = refl; totals = totals_start (omega arith) }

pub loop-k-preserved : goal.loop-k-preserved
loop-k-preserved c =
    let l = c.loop-k.invariant in
    let p = c.put_node.ensures in
    record {
      same_buffer = p.wrote.same_buffer ∙ l.same_buffer;
      totals = totals_more l.totals c.loop-k-test.true refl p.wrote.wrote p.upper_bound;
    }

pub returns : goal.returns
returns c = let l = c.loop-k.invariant in writes l.same_buffer (totals_done l.totals c.loop-k-test.false)
