-- What holds while the points' lines are written. Working definition.
use Rattle.std.specs.Prelude.{ℕ, ◌+◌, ◌*◌, ◌≤◌, ◌<◌, ◌≡◌, List, [], ◌++◌, length, get_or, ℤ}
use Rattle.rules.specs.declared.Rule.{Rule}
use Rattle.write.specs.Wrote.{Wrote}
use Rattle.monitor_text.specs.Readings.{NodeReading, node_count, OnBench, readings_of}
use Rattle.monitor_text.specs.MonitorText.{points_at}
use Rattle.monitor_text.specs.PointLineLaws.{points_by}
use Rattle.monitor_lines.specs.MonitorLines.{point_room}
use Rattle.monitor_report.specs.declared.nodes.Node.{Node}
use Rattle.monitor_report.specs.Points.{min_point, bench_answers, answer_lines}
use Rattle.monitor.specs.Zones.{zones_of}
use Rattle.monitor_report.specs.Nodes.{fresh_node, taken_chart, node_after}

-- each node is what its own points made of it
abbrev pub NodesAre : List Rule → ℤ → ℕ → List NodeReading → List Node → Type 0
NodesAre rs centre sigma ps nodes = (k : ℕ) → k < node_count → get_or nodes k fresh_node ≡ node_after rs (zones_of centre sigma (readings_of k ps))

-- the points `done` are those of the point lines of s from `at` on, up to the line at i; the nodes are as they left them; the lines of their
-- answers stand in the buffer up to `end`; and with what is left to read, for which the fuel is enough, they are the whole
pub record BenchWritten (s : List ℕ) (at : ℕ) (rs : List Rule) (centre : ℤ) (sigma : ℕ) (before after : List ℕ)
    (nodes : List Node) (i end : ℕ) : Type 0 where
  pub fuel : ℕ
  pub enough : length s ≤ i + fuel
  pub done : List NodeReading
  pub whole : done ++ points_by fuel s i ≡ points_at s at
  pub bench : OnBench (points_by fuel s i)
  pub nodes_are : NodesAre rs centre sigma done nodes
  pub slots : length nodes ≡ node_count
  pub ahead : min_point * length done ≤ i
  pub fit : min_point * length done ≤ length s
  pub size : length after ≡ length before
  pub room : end ≤ point_room * length done
  pub wrote : Wrote before 0 after end (answer_lines (bench_answers (taken_chart rs centre sigma) [] done))
