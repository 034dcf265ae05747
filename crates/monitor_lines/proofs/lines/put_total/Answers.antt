-- `put_total` meets its contract: three fields, LF.
use Rattle.write.specs.WritesLaws.{and_then}
use Rattle.monitor_lines.specs.MonitorLines.{total_line}
use Rattle.monitor_lines.proofs.lines.put_total.Goals as goal

pub returns-clause-wrote : goal.returns-clause-wrote
unfolding total_line
returns-clause-wrote c = search and_then
