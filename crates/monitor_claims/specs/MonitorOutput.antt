-- TO BELIEVE: what the monitor program's printed bytes are claimed to be: one refusal line and its reason, or the lines of what the plain chart of
-- each node says. Definitions.
use Rattle.std.specs.Prelude.{ℕ, ◌≤◌, ◌<◌, ◌≡◌, List, [], ℤ, length, ◌∷◌, Err, Ok}
use Rattle.rules.specs.declared.Rule.{Rule}
use Rattle.rules.specs.declared.refusal.Refusal.{Refusal}
use Rattle.rules.specs.Refusal.{place_of, number_of, bad_sigma, bad_line, too_long, bad_node}
use Rattle.rules.specs.Check.{check_of}
use Rattle.rules.specs.Numbers.{OneOf, rule_numbers}
use Rattle.monitor.specs.Zone.{min_sigma, max_sigma}
use Rattle.window.specs.ReferenceChart.{Answer, chart_answers}
use Rattle.monitor.specs.Calls.{Said, EachAnswer}
use Rattle.grammar.specs.Size.{max_text}
use Rattle.grammar.specs.Grammar.{Stops}
use Rattle.rule_lines.specs.Rules.{rule_list_of}
use Rattle.monitor_text.specs.Readings.{NodeReading, OnBench, readings_of}
use Rattle.monitor_text.specs.MonitorGrammar.{monitor_grammar}
use Rattle.write.specs.Refused.{refused_line}
use Rattle.monitor_report.specs.Points.{bench_bytes}
use Rattle.monitor.specs.Zones.{zones_of}
use Rattle.claims.specs.Exact.{free_answers}
use Rattle.monitor_claims.specs.MonitorTexts.{MonitorTextIs, OffBench}
use Rattle.window.specs.ReferenceChart.{Answer}
use Rattle.monitor_text.specs.Readings.{NodeReading, readings_of}
use Rattle.monitor_report.specs.Points.{NodeAnswer}
use Rattle.monitor_report.specs.Points.{bench_bytes}
use Rattle.monitor_claims.specs.MonitorTexts.{MonitorTextIs}
use Rattle.rules.specs.Numbers.{rule_numbers, OneOf}
use Rattle.rules.specs.Refusal.{bad_sigma, bad_line, too_long}
use Rattle.rules.specs.Refusal.{bad_node}
use Rattle.window.specs.ReferenceChart.{Answer}
use Rattle.monitor_text.specs.Readings.{NodeReading, OnBench, readings_of}
use Rattle.write.specs.Printed.{printed_bytes}
use Rattle.monitor_report.specs.Points.{bench_bytes}
use Rattle.monitor_report.specs.MonitorReport.{monitor_printed}

-- the plain chart on the zones of readings: what it answers to them, one by one, from an empty row
abbrev pub plain_chart : List Rule → ℤ → ℕ → List ℤ → List Answer
plain_chart rs centre sigma xs = free_answers rs [] (zones_of centre sigma xs)

-- The printed bytes are a line for each point and a total for each node that has points, by what the plain chart of each node says of that node's
-- readings.
pub record MonitorPrints (centre : ℤ) (sigma : ℕ) (rs : List Rule) (ps : List NodeReading) (printed : List ℕ) : Type 0 where
  pub lines : printed ≡ bench_bytes (plain_chart rs centre sigma) ps
  -- the same by the chart that can refuse: it refuses none of a node's readings
  pub chart : (node : ℕ) → chart_answers rs [] (zones_of centre sigma (readings_of node ps)) ≡ plain_chart rs centre sigma (readings_of node ps)
  pub said : (node : ℕ) → EachAnswer Said (plain_chart rs centre sigma (readings_of node ps))

pub data MonitorRefusal (s : List ℕ) : ℕ → ℕ → Type 0 where
  too_long_lem : max_text < length s → MonitorRefusal s (number_of too_long) 0
  bad_line_lem : (place : ℕ) → length s ≤ max_text → Stops monitor_grammar s place → MonitorRefusal s (number_of (bad_line place)) place
  bad_node_lem : (centre : ℤ) (sigma : ℕ) (rs : List Rule) (place : ℕ) → OffBench s centre sigma rs place → MonitorRefusal s (number_of (bad_node place)) place
  bad_rules : (centre : ℤ) (sigma : ℕ) (rs : List Rule) (ps : List NodeReading) (x : Refusal) → MonitorTextIs s centre sigma rs ps → OnBench ps
      → check_of (rule_list_of rs) ≡ Err x → OneOf rule_numbers (number_of x) → MonitorRefusal s (number_of x) (place_of x)
  bad_sigma_lem : (centre : ℤ) (sigma : ℕ) (rs : List Rule) (ps : List NodeReading) → MonitorTextIs s centre sigma rs ps → OnBench ps
      → check_of (rule_list_of rs) ≡ Ok tt → ((min_sigma ≤ sigma) × (sigma ≤ max_sigma) → ⊥) → MonitorRefusal s (number_of bad_sigma) 0

pub data MonitorProgram (s : List ℕ) (printed : List ℕ) : Type 0 where
  refuses : (number place : ℕ) → printed ≡ refused_line number place → MonitorRefusal s number place → MonitorProgram s printed
  prints : (centre : ℤ) (sigma : ℕ) (rs : List Rule) (ps : List NodeReading) → MonitorTextIs s centre sigma rs ps → OnBench ps
      → check_of (rule_list_of rs) ≡ Ok tt → (min_sigma ≤ sigma) × (sigma ≤ max_sigma)
      → MonitorPrints centre sigma rs ps printed → MonitorProgram s printed

-- ---- the monitor's lines

-- each answer is quiet or signal
unfoldable pub EachSaid : List NodeAnswer → Type 0
EachSaid [] = Unit {0}
EachSaid (a ∷ rest) = Said a.answer × EachSaid rest

-- the numbers that a text is refused by
abbrev pub monitor_numbers : List ℕ
monitor_numbers = number_of too_long ∷ number_of (bad_line 0) ∷ number_of (bad_node 0) ∷ number_of bad_sigma ∷ rule_numbers

-- ---- from bytes to bytes

-- the text is not refused
abbrev pub NotRefused : List ℕ → Type 0
NotRefused s = (number place : ℕ) → printed_bytes (monitor_printed s) ≡ refused_line number place → ⊥
