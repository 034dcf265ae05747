-- CLAIMS: the periods of a node's quiet and signal lines are 1, 2, 3, .., in order, to the number of its points; and they are what its
-- run lengths add up to.
use Rattle.std.specs.Prelude.{ℕ, ◌≡◌, List, ◌++◌, map, ℤ, length}
use Rattle.rules.specs.declared.Rule.{Rule}
use Rattle.decimal.specs.Decimal.{decimal}
use Rattle.monitor_text.specs.Readings.{NodeReading, readings_of}
use Rattle.write.specs.Printed.{printed_bytes}
use Rattle.monitor_report.specs.Points.{NodeAnswer, NodeTotal}
use Rattle.monitor_report.specs.Points.{answer_lines, total_lines}
use Rattle.monitor_report.specs.MonitorReport.{monitor_printed}
use Rattle.monitor_claims.specs.MonitorTexts.{MonitorTextIs}
use Rattle.monitor_claims.specs.MonitorOutput.{EachSaid}
use Rattle.monitor_claims.specs.NodeLines.{period_fields, count_from}
use Rattle.monitor_claims.specs.NodeLines.{answers_of}
use Rattle.monitor_claims.specs.MonitorOutput.{NotRefused}
use Rattle.monitor_claims.proofs.IsolationLaws.{accepted_prints}
use Rattle.monitor_claims.specs.NodeLines.{AddsUp}
use Rattle.monitor_claims.proofs.PeriodsLaws.{node_periods}
use Rattle.monitor_claims.proofs.PeriodsLaws.{periods_add_up as periods_add_up_proved}

-- In an accepted text the period fields of a node's quiet and signal lines are 1, 2, 3, .., in order, to the number of its points.
pub periods : {s : List ℕ} {centre : ℤ} {sigma : ℕ} {rs : List Rule} {ps : List NodeReading} → NotRefused s
    → MonitorTextIs s centre sigma rs ps
    → (k : ℕ) → period_fields k (printed_bytes (monitor_printed s)) ≡ map decimal (count_from 1 (length (readings_of k ps)))
periods a is k =
    let t = accepted_prints a is in
    node_periods t.0 t.1 k

-- Whoever reads the printed bytes as the lines of any answers, each with a node and a period, finds for every node that they add up: the
-- period of a signal is the sum of the run lengths up to it.
pub periods_add_up : (s : List ℕ) (os : List NodeAnswer) (ts : List NodeTotal) → EachSaid os
    → printed_bytes (monitor_printed s) ≡ answer_lines os ++ total_lines ts → (k : ℕ) → AddsUp 0 (answers_of k os)
periods_add_up = periods_add_up_proved
