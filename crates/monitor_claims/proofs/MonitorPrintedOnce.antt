-- CLAIMS: what the monitor program prints determines the numbers.
use Rattle.std.specs.Prelude.{ℕ, ◌≡◌, List, [], ◌++◌, ℤ}
use Rattle.rules.specs.declared.Rule.{Rule}
use Rattle.write.specs.Printed.{printed_bytes}
use Rattle.monitor_text.specs.Readings.{NodeReading, node_count}
use Rattle.monitor_report.specs.Points.{NodeAnswer, NodeTotal, bench_answers, bench_totals}
use Rattle.monitor_report.specs.Points.{answer_lines, total_lines}
use Rattle.monitor_report.specs.MonitorReport.{monitor_printed}
use Rattle.monitor_claims.specs.MonitorTexts.{MonitorTextIs}
use Rattle.monitor_claims.specs.MonitorOutput.{plain_chart}
use Rattle.monitor_claims.specs.MonitorOutput.{EachSaid}
use Rattle.monitor_claims.proofs.MonitorPrintedOnceLaws.{monitor_read_off as monitor_read_off_proved}

-- Whoever reads the monitor program's output as the lines of any answers, each with a node and a period, and any totals reads those of
-- each node's plain chart, for the points whose lines the text has.
pub monitor_read_off : (s : List ℕ) (os : List NodeAnswer) (ts : List NodeTotal) → EachSaid os
    → printed_bytes (monitor_printed s) ≡ answer_lines os ++ total_lines ts
    → (centre : ℤ) × (sigma : ℕ) × (rs : List Rule) × (ps : List NodeReading) × MonitorTextIs s centre sigma rs ps
    × (os ≡ bench_answers (plain_chart rs centre sigma) [] ps) × (ts ≡ bench_totals (plain_chart rs centre sigma) ps node_count)
monitor_read_off = monitor_read_off_proved
