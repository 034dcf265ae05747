-- CLAIMS: the monitor program's text. It is accepted exactly where it is the lines of a chart, rules and points of the bench's nodes, and it then
-- gives these; where it stops being one it is refused by 16, there, and at the first point of no node by 19.
use Rattle.std.specs.Prelude.{ℕ, ◌+◌, ◌≤◌, ◌<◌, ◌≡◌, List, ◌∷◌, ℤ, length, Ok, Err}
use Rattle.std.proofs.Common.{arith}
use Rattle.rules.specs.declared.Rule.{Rule}
use Rattle.rules.specs.Bounds.{max_rules}
use Rattle.rules.specs.Refusal.{bad_line, too_long, bad_node}
use Rattle.grammar.specs.Size.{max_text}
use Rattle.grammar.specs.Newlines.{newlines}
use Rattle.grammar.specs.Grammar.{lines_of, bytes_of_all, Stops}
use Rattle.grammar.specs.Clear.{kinds_of}
use Rattle.grammar.proofs.ToldLaws.{lines_in_lem}
use Rattle.grammar.proofs.LinesLaws.{newlines_all}
use Rattle.grammar.specs.Read.{wrong}
use Rattle.grammar.specs.Read.{too_long_lem as beyond}
use Rattle.grammar.proofs.EveryGrammar.{is_reading}
use Rattle.monitor_text.specs.declared.monitors.MonitorText.{MonitorText}
use Rattle.monitor_text.specs.Readings.{NodeReading, OnBench}
use Rattle.monitor_text.specs.MonitorGrammar.{monitor_grammar, monitor_contents}
use Rattle.monitor_text.specs.MonitorText.{monitor_of, monitor_text, monitor_points}
use Rattle.monitor_text.specs.ReadMonitor.{read_monitor}
use Rattle.monitor_text.specs.MonitorTextLaws.{clear_monitor}
use Rattle.monitor_claims.specs.MonitorTexts.{MonitorTextIs, OffBench, MonitorReading}
use Rattle.monitor_claims.proofs.MonitorBytesLaws.{front_fits}
use Rattle.monitor_claims.proofs.MonitorBytesLaws.{monitor_reading as monitor_reading_proved, monitor_read as monitor_read_proved, monitor_off_bench as monitor_off_bench_proved}
use Rattle.monitor_claims.proofs.MonitorBytesLaws.{monitor_text_once as monitor_text_once_proved, monitor_accepted as monitor_accepted_proved, monitor_exactly as monitor_exactly_proved}

-- The first point of no node is the line behind the LFs before it.
pub off_newlines : {s : List ℕ} {c : ℤ} {d : ℕ} {rs : List Rule} {place : ℕ} (o : OffBench s c d rs place)
    → place ≡ 1 + newlines (bytes_of_all (lines_of monitor_grammar (monitor_contents c d rs o.before)))
off_newlines {s} {c} {d} {rs} o =
    let front = monitor_contents c d rs o.before in
    let fits = front_fits c d rs o.before (o.point ∷ o.after) o.text.text.fit in
    omega (arith, o.line, newlines_all (kinds_of monitor_grammar) clear_monitor.1 (lines_of monitor_grammar front) (lines_in_lem monitor_grammar front) fits)

-- Every text is refused by 17; or by 16, at the line where it stops being one; or by 19, at the first point whose node is none of the bench's; or it
-- is read.
pub monitor_reading : (s : List ℕ) → MonitorReading s (monitor_text s)
monitor_reading = monitor_reading_proved

-- ---- the lines of a chart, rules and points are read back

-- A text that is these lines, with points of the bench's nodes, is read as its chart, its rules and its points.
pub monitor_read : {s : List ℕ} {c : ℤ} {d : ℕ} {rs : List Rule} {ps : List NodeReading} → MonitorTextIs s c d rs ps → OnBench ps
    → (at : ℕ) × (monitor_text s ≡ Ok (read_monitor c d rs at)) × (monitor_points s ≡ ps)
monitor_read = monitor_read_proved

-- A text with a point whose node is none of the bench's is refused by 19, at the first such point.
pub monitor_off_bench : {s : List ℕ} {c : ℤ} {d : ℕ} {rs : List Rule} {place : ℕ} → OffBench s c d rs place
    → monitor_text s ≡ Err (bad_node place)
monitor_off_bench = monitor_off_bench_proved

-- A text is the lines of at most one chart, one list of rules and one list of points.
pub monitor_text_once : {s : List ℕ} {c c' : ℤ} {d d' : ℕ} {rs rs' : List Rule} {ps ps' : List NodeReading} → MonitorTextIs s c d rs ps
    → MonitorTextIs s c' d' rs' ps'
    → (c ≡ c') × (d ≡ d') × (rs ≡ rs') × (ps ≡ ps')
monitor_text_once = monitor_text_once_proved

-- A text is accepted exactly where it is the lines of a chart, rules and points of the bench's nodes: then it gives these.
pub monitor_accepted : (s : List ℕ) (t : MonitorText) → monitor_text s ≡ Ok t
    → (c : ℤ) × (d : ℕ) × (rs : List Rule) × (ps : List NodeReading) × MonitorTextIs s c d rs ps × OnBench ps
monitor_accepted = monitor_accepted_proved

-- The same by the equations with what is read, for the rules that a list has slots for.
pub monitor_exactly : {s : List ℕ} {c : ℤ} {d : ℕ} {rs : List Rule} (at : ℕ) {ps : List NodeReading} → length rs ≤ max_rules
    → monitor_text s ≡ Ok (read_monitor c d rs at) → monitor_points s ≡ ps → MonitorTextIs s c d rs ps × OnBench ps
monitor_exactly = monitor_exactly_proved

-- Bytes that stop being a text at a line are refused by 16, with that line as the place.
pub monitor_stopped : {s : List ℕ} {place : ℕ} → length s ≤ max_text → Stops monitor_grammar s place → monitor_text s ≡ Err (bad_line place)
unfolding monitor_text monitor_of
monitor_stopped {s} l st = rw (is_reading monitor_grammar clear_monitor s (wrong l st))

-- Longer bytes than a text may have are refused by 17.
pub monitor_too_long : (s : List ℕ) → max_text < length s → monitor_text s ≡ Err too_long
unfolding monitor_text monitor_of
monitor_too_long s l = rw (is_reading monitor_grammar clear_monitor s (beyond l))
