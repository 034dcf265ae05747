-- CLAIM: the monitor program, for every text, of the bytes that its output function's contract names.
use Rattle.std.specs.Prelude.{ℕ, ◌≤◌, ◌≡◌, List, ℤ, Ok}
use Rattle.rules.specs.declared.Rule.{Rule}
use Rattle.rules.specs.Check.{check_of}
use Rattle.monitor.specs.Zone.{min_sigma, max_sigma}
use Rattle.rule_lines.specs.Rules.{rule_list_of}
use Rattle.monitor_text.specs.Readings.{NodeReading, OnBench}
use Rattle.write.specs.Printed.{printed_bytes}
use Rattle.monitor_report.specs.MonitorReport.{monitor_printed}
use Rattle.monitor_claims.specs.MonitorTexts.{MonitorTextIs}
use Rattle.monitor_claims.specs.MonitorOutput.{MonitorPrints, MonitorProgram}
use Rattle.monitor_claims.proofs.MonitorProgramLaws.{monitor_program as monitor_program_proved, monitor_printed_lem as monitor_printed_proved}

-- For every text: one refusal line, with the number and the place of a reason that holds of the text; or the text is the lines of a chart, rules
-- and points of the bench's nodes, and what is printed is exactly the lines of each node's plain chart on that node's readings, and the totals.
pub monitor_program : (s : List ℕ) → MonitorProgram s (printed_bytes (monitor_printed s))
monitor_program = monitor_program_proved

-- The other way round: a text that is the lines of a chart, rules and points which are in bounds is not refused.
pub monitor_printed_lem : {s : List ℕ} {c : ℤ} {d : ℕ} {rs : List Rule} {ps : List NodeReading} → MonitorTextIs s c d rs ps → OnBench ps
    → check_of (rule_list_of rs) ≡ Ok tt
    → (min_sigma ≤ d) × (d ≤ max_sigma) → MonitorPrints c d rs ps (printed_bytes (monitor_printed s))
monitor_printed_lem = monitor_printed_proved
