-- TO BELIEVE: what it is for bytes to be a monitor text, which point of one is none of the bench's, and what is read of bytes. Nothing here reads.
-- Definitions.
use Rattle.std.specs.Prelude.{ℕ, ◌+◌, ◌≤◌, ◌<◌, ◌≡◌, List, ◌∷◌, ◌++◌, ℤ, length, Result, Ok, Err}
use Rattle.rules.specs.declared.Rule.{Rule}
use Rattle.rules.specs.declared.refusal.Refusal.{Refusal}
use Rattle.rules.specs.Refusal.{bad_line, too_long, bad_node}
use Rattle.grammar.specs.Size.{max_text}
use Rattle.grammar.specs.Grammar.{lines_of, TextIs, Stops}
use Rattle.rule_lines.specs.Rules.{rule_values}
use Rattle.monitor_text.specs.declared.monitors.MonitorText.{MonitorText}
use Rattle.monitor_text.specs.Readings.{NodeReading, node_count, OnBench}
use Rattle.monitor_text.specs.MonitorGrammar.{monitor_grammar, monitor_contents}
use Rattle.monitor_text.specs.ReadMonitor.{read_monitor, points_from}

-- s is the monitor text of this chart, these rules and these points, whatever their nodes: their lines, one behind the other, and nothing else, every
-- number within 32 bits
pub record MonitorTextIs (s : List ℕ) (centre : ℤ) (sigma : ℕ) (rs : List Rule) (ps : List NodeReading) : Type 0 where
  pub text : TextIs monitor_grammar (monitor_contents centre sigma rs ps) s
  pub short : length s ≤ max_text

-- and one of the points has a node that is none of the bench's: the first such point is the line `place`, from 1, behind the lines before it
pub record OffBench (s : List ℕ) (centre : ℤ) (sigma : ℕ) (rs : List Rule) (place : ℕ) : Type 0 where
  pub before : List NodeReading
  pub point : NodeReading
  pub after : List NodeReading
  pub text : MonitorTextIs s centre sigma rs (before ++ (point ∷ after))
  pub good : OnBench before
  pub bad : node_count ≤ point.node
  pub line : place ≡ 1 + length (lines_of monitor_grammar (monitor_contents centre sigma rs before))

-- what is read of a text: 17; or 16, at the line where it stops being one; then 19; or all of it, and where the points begin
pub data MonitorReading (s : List ℕ) : Result MonitorText Refusal → Type 0 where
  too_long_lem : max_text < length s → MonitorReading s (Err too_long)
  stopped : (place : ℕ) → length s ≤ max_text → Stops monitor_grammar s place → MonitorReading s (Err (bad_line place))
  off_bench : (centre : ℤ) (sigma : ℕ) (rs : List Rule) (place : ℕ) → OffBench s centre sigma rs place
      → MonitorReading s (Err (bad_node place))
  read : (centre : ℤ) (sigma : ℕ) (rs : List Rule) (ps : List NodeReading) → MonitorTextIs s centre sigma rs ps → OnBench ps
      → MonitorReading s (Ok (read_monitor centre sigma rs (points_from (centre, (sigma, tt)) (rule_values rs))))
