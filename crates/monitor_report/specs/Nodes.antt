-- What is kept of a node while its points are charted. Working definitions.
use Rattle.std.specs.Prelude.{ℕ, zero, suc, ◌+◌, cond, List, [], ◌∷◌, ◌++◌, eqb, length, get_or, ℤ}
use Rattle.rules.specs.declared.Rule.{Rule}
use Rattle.monitor.specs.declared.Monitor.{Monitor}
use Rattle.monitor.specs.Step.{fresh_monitor}
use Rattle.window.specs.ReferenceChart.{Answer}
use Rattle.monitor.specs.Take.{taken_of, next_of, taken_answers}
use Rattle.monitor.specs.declared.Taken.{Taken}
use Rattle.monitor_lines.specs.declared.lines.PointLine.{PointLine}
use Rattle.monitor_report.specs.declared.nodes.Node.{Node}
use Rattle.monitor_report.specs.declared.nodes.NodePoint.{NodePoint}
use Rattle.monitor_report.specs.Points.{signals_in, NodeTotal}
use Rattle.monitor.specs.Zones.{zones_of}

abbrev pub fresh_node : Node
fresh_node = record { monitor = fresh_monitor; points = 0; signals = 0 }

-- what a point that is taken says of node number k, and the node behind it
abbrev pub node_point : ℕ → Node → Taken → NodePoint
node_point k n (Taken.Quiet m) =
    record {
      line = PointLine.Quiet k (n.monitor.count + 1) (n.points + 1);
      next = record { monitor = m; points = n.points + 1; signals = n.signals };
    }
node_point k n (Taken.Signal mask) =
    record {
      line = PointLine.Signal k (n.monitor.count + 1) mask (n.points + 1);
      next = record { monitor = fresh_monitor; points = n.points + 1; signals = n.signals + 1 };
    }

unfoldable pub node_taken : List Rule → ℕ → Node → ℕ → NodePoint
node_taken rs k n z = node_point k n (taken_of rs n.monitor z)

-- the chart of a node whose points are taken one by one
abbrev pub taken_chart : List Rule → ℤ → ℕ → List ℤ → List Answer
taken_chart rs centre sigma xs = taken_answers rs fresh_monitor (zones_of centre sigma xs)

-- the monitor behind zones that are taken one by one
unfoldable pub taken_after : List Rule → Monitor → List ℕ → Monitor
taken_after rs m [] = m
taken_after rs m (z ∷ zs) = taken_after rs (next_of (taken_of rs m z)) zs

-- and the node
unfoldable pub node_after : List Rule → List ℕ → Node
node_after rs zs =
    record { monitor = taken_after rs fresh_monitor zs; points = length zs; signals = signals_in (taken_answers rs fresh_monitor zs) }

-- the total of node number k, and those of the first n nodes
abbrev pub total_of : ℕ → Node → List NodeTotal
total_of k n = cond (eqb n.points 0) [] (record { node = k; points = n.points; signals = n.signals } ∷ [])

unfoldable pub totals_of : List Node → ℕ → List NodeTotal
totals_of nodes zero = []
totals_of nodes (suc n) = totals_of nodes n ++ total_of n (get_or nodes n fresh_node)
