-- `inflow::gather` ends: it calls itself on the rest of the group.
use Rattle.std.proofs.Common.{length}
use Rattle.next_row.proofs.inflow.+gather.Given as goal

abbrev pub decreases-gather : goal.decreases-gather
decreases-gather l = length l.group.now
