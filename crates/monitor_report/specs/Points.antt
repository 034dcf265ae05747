-- TO BELIEVE: the lines of the points of a bench: each node's by the chart of that node, which is given that node's readings and no others. Definitions.
use Rattle.std.specs.Prelude.{ℕ, zero, suc, ◌+◌, ◌*◌, ◌/◌, List, [], ◌∷◌, ◌++◌, length, ℤ}
use Rattle.rules.specs.Mask.{bit}
use Rattle.window.specs.ReferenceChart.{Answer, refused, quiet, signal, is_signal}
use Rattle.grammar.specs.FewestBytes.{least_of}
use Rattle.grammar.specs.Size.{max_text}
use Rattle.monitor_text.specs.MonitorGrammar.{point_line}
use Rattle.monitor_text.specs.Readings.{NodeReading, node_count, readings_of}
use Rattle.monitor_lines.specs.MonitorLines.{quiet_line, signal_line, point_room, total_line, total_room}

-- ---- working: rooms

-- the fewest bytes of a point line, by its kind; the most points that a text can have; and the most bytes of their lines and the nodes' totals
abbrev pub min_point : ℕ
min_point = least_of point_line

abbrev pub max_points : ℕ
max_points = max_text / min_point

abbrev pub monitor_room : ℕ
monitor_room = point_room * max_points + total_room * node_count

-- ---- answers

-- how many answers are signals
unfoldable pub signals_in : List Answer → ℕ
signals_in [] = 0
signals_in (a ∷ rest) = bit (is_signal a) + signals_in rest

-- ---- what is said of each point, and of each node

-- an answer, the node that it is for, and the period: which of that node's points it answers, from 1
pub record NodeAnswer : Type 0 where
  pub node : ℕ
  pub answer : Answer
  pub period : ℕ

-- a node's points and signals
pub record NodeTotal : Type 0 where
  pub node : ℕ
  pub points : ℕ
  pub signals : ℕ

abbrev pub node_answer : ℕ → Answer → ℕ → NodeAnswer
node_answer node a period = record { node = node; answer = a; period = period }

-- the last of a node's answers, where there is one
unfoldable pub last_answer : ℕ → List Answer → ℕ → List NodeAnswer
last_answer node [] period = []
last_answer node (a ∷ []) period = node_answer node a period ∷ []
last_answer node (a ∷ b ∷ rest) period = last_answer node (b ∷ rest) period

-- What is said of a point whose node has these readings up to it, its own the last: a chart answers a list of readings one by one, and
-- the point gets the last answer; its period is the number of these readings.
abbrev pub point_answer : (List ℤ → List Answer) → ℕ → List ℤ → List NodeAnswer
point_answer chart node xs = last_answer node (chart xs) (length xs)

-- each point behind the points `before`, by its node's readings from the first on
unfoldable pub bench_answers : (List ℤ → List Answer) → List NodeReading → List NodeReading → List NodeAnswer
bench_answers chart before [] = []
bench_answers chart before (p ∷ ps) =
    point_answer chart p.node (readings_of p.node (before ++ (p ∷ []))) ++ bench_answers chart (before ++ (p ∷ [])) ps

-- a node's total: none where it has no answer
abbrev pub node_total : ℕ → List Answer → List NodeTotal
node_total node [] = []
node_total node (a ∷ rest) = record { node = node; points = length (a ∷ rest); signals = signals_in (a ∷ rest) } ∷ []

-- the totals of the nodes below n, in their order
unfoldable pub bench_totals : (List ℤ → List Answer) → List NodeReading → ℕ → List NodeTotal
bench_totals chart ps zero = []
bench_totals chart ps (suc n) = bench_totals chart ps n ++ node_total n (chart (readings_of n ps))

-- ---- and the lines of it

-- the line of an answer. No point is refused (`no_point_refused` of MonitorReportLaws), so that what this case gets is never seen
abbrev pub line_of : ℕ → Answer → ℕ → List ℕ
line_of node (refused n) period = []
line_of node (quiet n) period = quiet_line node n period
line_of node (signal n mask) period = signal_line node n mask period

unfoldable pub answer_lines : List NodeAnswer → List ℕ
answer_lines [] = []
answer_lines (a ∷ rest) = line_of a.node a.answer a.period ++ answer_lines rest

unfoldable pub total_lines : List NodeTotal → List ℕ
total_lines [] = []
total_lines (t ∷ rest) = total_line t.node t.points t.signals ++ total_lines rest

-- a line for each point, then one for each node that has points
unfoldable pub bench_bytes : (List ℤ → List Answer) → List NodeReading → List ℕ
bench_bytes chart ps = answer_lines (bench_answers chart [] ps) ++ total_lines (bench_totals chart ps node_count)
