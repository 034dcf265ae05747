-- BY CONTRACT: what the monitor program prints for a text, by what its parser gives. `monitor_program` says what it is, from bytes to bytes. Definitions.
use Rattle.std.specs.Prelude.{ℕ, List, [], ℤ, Result, Ok, Err}
use Rattle.rules.specs.declared.RuleList.{RuleList}
use Rattle.rules.specs.Check.{Checked, within, or_else, unless, check_of}
use Rattle.rules.specs.declared.refusal.Refusal.{Refusal}
use Rattle.rules.specs.Refusal.{bad_sigma}
use Rattle.monitor.specs.Zone.{min_sigma, max_sigma}
use Rattle.monitor.specs.Step.{fresh_monitor}
use Rattle.window.specs.ReferenceChart.{Answer}
use Rattle.monitor.specs.Calls.{monitor_answers}
use Rattle.monitor_text.specs.declared.monitors.MonitorText.{MonitorText}
use Rattle.monitor_text.specs.Readings.{NodeReading}
use Rattle.monitor_text.specs.MonitorText.{monitor_text, monitor_points}
use Rattle.write.specs.Printed.{Printed, printed_by}
use Rattle.monitor_report.specs.Points.{bench_bytes}
use Rattle.monitor.specs.Zones.{zones_of}

-- the chart of one node: what a fresh monitor answers to the readings, one after another
abbrev pub reading_answers : RuleList → ℤ → ℕ → List ℤ → List Answer
reading_answers l centre sigma xs = monitor_answers l fresh_monitor (zones_of centre sigma xs)

-- the refusals in their order: the text's, 17, 16 or 19; the rules', 2, 3, 4; then 1
abbrev pub monitor_check : Result MonitorText Refusal → Checked
monitor_check (Ok t) = or_else (check_of t.list) (unless (within min_sigma max_sigma t.sigma) bad_sigma)
monitor_check (Err x) = Err x

-- what was read: a refusal, or its points, each on the chart of its node
abbrev pub bench_of : Result MonitorText Refusal → List NodeReading → List ℕ
bench_of (Ok t) points = bench_bytes (reading_answers t.list t.centre t.sigma) points
bench_of (Err x) points = []

unfoldable pub monitor_printed : List ℕ → Printed
monitor_printed s = printed_by (monitor_check (monitor_text s)) (bench_of (monitor_text s) (monitor_points s))
