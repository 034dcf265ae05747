-- `put_node` meets its contract: no line where there are no points, else the total's.
use native.Mathlib.Omega.{arith}
use Rattle.write.specs.WritesLaws.{writes_nothing}
use Rattle.monitor_report.specs.TotalsWrittenLaws.{no_total, one_total}
use Rattle.monitor_report.proofs.nodes.put_node.Goals as goal

pub returns-then-node-eq0-clause-wrote : goal.returns-then-node-eq0-clause-wrote
returns-then-node-eq0-clause-wrote c =
    rw (no_total c.args.k c.args.node c.if-node-eq0.true) (writes_nothing _ (omega arith))

pub returns-clause-wrote : goal.returns-clause-wrote
returns-clause-wrote c = rw (one_total c.args.k c.args.node (λ z. omega arith)) c.put_total.ensures.wrote
