-- BY CONTRACT: what the monitor program is given of its text. `monitor_reading` and `monitor_read` say what it is. Definitions.
use Rattle.std.specs.Prelude.{ℕ, ◌+◌, cond, List, ltb, length, Result, Ok, Err, []}
use Rattle.rules.specs.declared.refusal.Refusal.{Refusal}
use Rattle.rules.specs.Refusal.{bad_line, too_long, bad_node}
use Rattle.grammar.specs.Form.{Says, line}
use Rattle.grammar.specs.Grammar.{Contents}
use Rattle.grammar.specs.TextReading.{many_at}
use Rattle.grammar.specs.TextReading.{read_text}
use Rattle.grammar.specs.Read.{Reading, read, stopped, long}
use Rattle.rule_lines.specs.Rules.{rule_line, rules_said}
use Rattle.monitor_text.specs.declared.monitors.MonitorText.{MonitorText}
use Rattle.monitor_text.specs.Readings.{NodeReading, bench_points}
use Rattle.monitor_text.specs.MonitorGrammar.{chart_line, point_line, monitor_grammar, points_said}
use Rattle.monitor_text.specs.ReadMonitor.{read_monitor, points_from}

-- the points of the point lines from an offset on
abbrev pub points_at : List ℕ → ℕ → List NodeReading
points_at s at = points_said (many_at (line point_line) (length s) s at)

-- a point of a node that is none of the bench's, at its line, which is the line 2 behind the number of rules and of points before it; else what
-- was read
unfoldable pub bench_or : Says chart_line → List (Says rule_line) → List NodeReading → Result MonitorText Refusal
bench_or x vss ps =
    cond (ltb (bench_points ps) (length ps))
    (Err (bad_node (2 + length vss + bench_points ps)))
    (Ok (read_monitor x.0 x.1.0 (rules_said vss) (points_from x vss)))

-- the contents, or 19; or 16 at the line where the text stops being one; or 17
unfoldable pub monitor_of : Reading (Contents monitor_grammar) → Result MonitorText Refusal
monitor_of (read c) = bench_or c.0 c.1.0 (points_said c.1.1.0)
monitor_of (stopped n) = Err (bad_line n)
monitor_of long = Err too_long

unfoldable pub monitor_text : List ℕ → Result MonitorText Refusal
monitor_text s = monitor_of (read_text monitor_grammar s)

-- the points of a text that is not refused
abbrev pub points_in : List ℕ → Result MonitorText Refusal → List NodeReading
points_in s (Ok t) = points_at s t.points
points_in s (Err x) = []

abbrev pub monitor_points : List ℕ → List NodeReading
monitor_points s = points_in s (monitor_text s)
