-- CLAIMS: the lines printed for one node are those of its own readings: document 01's program would print them for these readings alone, without the
-- node; and whatever the other nodes' points are, they are the same.
use Rattle.std.specs.Prelude.{ℕ, ◌≡◌, List, [], map, ℤ}
use Rattle.std.proofs.Common.{◌∙◌}
use Rattle.rules.specs.declared.Rule.{Rule}
use Rattle.monitor_text.specs.Readings.{NodeReading, node_count, OnBench, readings_of}
use Rattle.write.specs.Printed.{printed_bytes}
use Rattle.monitor_report.specs.Points.{bench_answers, answer_lines, total_lines, bench_bytes}
use Rattle.monitor_report.specs.MonitorReport.{monitor_printed}
use Rattle.monitor_claims.specs.MonitorTexts.{MonitorTextIs}
use Rattle.monitor_claims.specs.MonitorOutput.{plain_chart, MonitorPrints}
use Rattle.monitor_claims.specs.NodeLines.{lines_in, node_lines, with_node, with_periods, alone_bytes}
use Rattle.monitor_claims.specs.MonitorOutput.{NotRefused}
use Rattle.monitor_claims.proofs.IsolationLaws.{same_lines, accepted_prints, no_totals}
use Rattle.monitor_claims.proofs.IsolationLaws.{node_alone as node_alone_proved, node_without as node_without_proved}

module _ {centre : ℤ} {sigma : ℕ} {rs : List Rule} {ps : List NodeReading} {printed : List ℕ}
    (o : OnBench ps) (t : MonitorPrints centre sigma rs ps printed) (k : ℕ) where
  -- A node with a point: its lines are those that document 01's program prints for its readings alone, each quiet and signal line with
  -- its number behind it, from 1, and each line with the node after the first word.
  pub node_alone : (readings_of k ps ≡ [] → ⊥)
      → node_lines k printed ≡ map (with_node k) (with_periods 1 (lines_in (alone_bytes (plain_chart rs centre sigma (readings_of k ps)))))
  node_alone = node_alone_proved o t k

  -- A node with none has no line.
  pub node_without : readings_of k ps ≡ [] → node_lines k printed ≡ []
  node_without = node_without_proved o t k

-- Two texts that are both accepted and have the same opening lines, and in which a node's readings are the same: the lines printed for that node, its
-- total among them, are the same, in the same order.
pub isolation : {s s' : List ℕ} {centre : ℤ} {sigma : ℕ} {rs : List Rule} {ps ps' : List NodeReading} → NotRefused s → NotRefused s'
    → MonitorTextIs s centre sigma rs ps → MonitorTextIs s' centre sigma rs ps' → (k : ℕ) → readings_of k ps ≡ readings_of k ps'
    → node_lines k (printed_bytes (monitor_printed s)) ≡ node_lines k (printed_bytes (monitor_printed s'))
isolation a a' is is' k e =
    let t = accepted_prints a is in
    let t' = accepted_prints a' is' in
    same_lines t.0 t.1 t'.0 t'.1 k e

-- In an accepted text the lines of a node that has a point are those that document 01's program would print for its readings alone,
-- each quiet and signal line with its number behind it, 1, 2, 3, .., and each line with the node after the first word.
pub alone : {s : List ℕ} {centre : ℤ} {sigma : ℕ} {rs : List Rule} {ps : List NodeReading} → NotRefused s → MonitorTextIs s centre sigma rs ps
    → (k : ℕ) → (readings_of k ps ≡ [] → ⊥)
    → node_lines k (printed_bytes (monitor_printed s))
    ≡ map (with_node k) (with_periods 1 (lines_in (alone_bytes (plain_chart rs centre sigma (readings_of k ps)))))
alone a is k n =
    let t = accepted_prints a is in
    node_alone t.0 t.1 k n

-- An accepted text with no points prints nothing.
pub no_points_nothing : {s : List ℕ} {centre : ℤ} {sigma : ℕ} {rs : List Rule} → NotRefused s → MonitorTextIs s centre sigma rs []
    → printed_bytes (monitor_printed s) ≡ []
unfolding bench_bytes bench_answers answer_lines total_lines
no_points_nothing {s} {centre} {sigma} {rs} a is = (accepted_prints a is).1.lines ∙ rw (no_totals rs centre sigma node_count)
