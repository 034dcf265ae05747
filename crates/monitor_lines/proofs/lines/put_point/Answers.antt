-- `put_point` meets its contract: three fields for a quiet point, four for a signal; LF.
use Rattle.write.specs.WritesLaws.{and_then}
use Rattle.monitor_lines.specs.MonitorLines.{quiet_line, signal_line, point_bytes}
use Rattle.monitor_lines.proofs.lines.put_point.Goals.{in-Quiet, in-Signal}
use Rattle.monitor_lines.proofs.lines.put_point.Goals as goal

pub returns-clause-wrote : goal.returns-clause-wrote
unfolding quiet_line signal_line point_bytes
returns-clause-wrote c = elim c.match-line.branch [
  | in-Quiet w ↦ let lf = rw w.w-is at c.byte.ensures in rw w.in-Quiet.is (search and_then)
  | in-Signal w ↦ let lf = rw w.w-is at c.byte.ensures in rw w.in-Signal.is (search and_then)
]
