-- What holds of a monitor text that is read: its points are those of the point lines from the offset on that is given. Laws.
use Rattle.std.specs.Prelude.{ℕ, ◌+◌, ◌≤◌, ◌≡◌, refl, Bool, true, false, cond, List, [], ◌∷◌, leb, ltb, length, Ok}
use Rattle.std.proofs.Common.{sym, ap, ◌∙◌, arith, leb-true, ltb-false, le-ltb}
use Rattle.grammar.specs.Form.{Says, line}
use Rattle.grammar.specs.Grammar.{many, Contents}
use Rattle.grammar.specs.Size.{max_text}
use Rattle.grammar.specs.TextReading.{on_seen, seen, many_at, after_many}
use Rattle.grammar.specs.Read.{Seen, found, other}
use Rattle.grammar.specs.TextReading.{also, read_at, read_text}
use Rattle.grammar.specs.Read.{Reading, read, stopped, long}
use Rattle.rule_lines.specs.Rules.{rule_line, rules_said}
use Rattle.monitor_text.specs.declared.monitors.MonitorText.{MonitorText}
use Rattle.monitor_text.specs.Readings.{OnBench, bench_points}
use Rattle.monitor_text.specs.ReadingsLaws.{all_bench, bench_all}
use Rattle.monitor_text.specs.MonitorGrammar.{chart_line, point_line, monitor_grammar, points_said}
use Rattle.monitor_text.specs.MonitorText.{points_at, bench_or, points_in, monitor_of, monitor_text}
use Rattle.monitor_text.specs.ReadMonitor.{read_monitor, points_from}
use Rattle.monitor_text.specs.MonitorTextLaws.{points_begin}

-- ---- where the lines of a text that is read stand

pub record LinesAt (s : List ℕ) (c : Contents monitor_grammar) : Type 0 where
  pub short : length s ≤ max_text
  pub at : ℕ
  pub chart : seen (line chart_line) s 0 ≡ found c.0 at
  pub rules : many_at (line rule_line) (length s) s at ≡ c.1.0
  pub points : many_at (line point_line) (length s) s (after_many (line rule_line) (length s) s at) ≡ c.1.1.0

abbrev contents_or : Contents monitor_grammar → Reading (Contents monitor_grammar) → Contents monitor_grammar
contents_or d (read c) = c
contents_or d (stopped n) = d
contents_or d long = d

-- behind the chart, with whether the text ends where the points do
abbrev behind : List ℕ → Says chart_line → ℕ → Bool → Reading (Contents monitor_grammar)
behind s x at b =
    let vss = many_at (line rule_line) (length s) s at in
    let points = many_at (line point_line) (length s) s (after_many (line rule_line) (length s) s at) in
    also x (also vss (also points (cond b (read tt) (stopped (1 + 1 + length vss + length points)))))

pub lines_at : (s : List ℕ) (c : Contents monitor_grammar) → read_text monitor_grammar s ≡ read c → LinesAt s c
unfolding read_text read_at
lines_at s c e = go (leb (length s) max_text) refl (seen (line chart_line) s 0) refl e
  where
    whole : (x : Says chart_line) (at : ℕ) → length s ≤ max_text → seen (line chart_line) s 0 ≡ found x at → (b : Bool) → behind s x at b ≡ read c → LinesAt s c
    whole x at short q true e =
        let h = ap (contents_or c) e in
        record {
          short = short;
          at = at;
          chart = q ∙ ap (λ (d : Contents monitor_grammar). found d.0 at) h;
          rules = ap (λ (d : Contents monitor_grammar). d.1.0) h;
          points = ap (λ (d : Contents monitor_grammar). d.1.1.0) h;
        }
    whole x at short q false e = let z : ◌≡◌ {A = ℕ} 0 1 = cc in absurd (omega arith)

    go : (b : Bool) → leb (length s) max_text ≡ b → (y : Seen (Says chart_line)) → seen (line chart_line) s 0 ≡ y
        → cond b (on_seen y (λ x next. also x (read_at (many rule_line ∷ many point_line ∷ []) s next (1 + 1))) (stopped 1)) long ≡ read c → LinesAt s c
    go true h (found x at) q e = whole x at (leb-true _ _ h) q (leb (length s) (after_many (line point_line) (length s) s (after_many (line rule_line) (length s) s at))) e
    go true h other q e = let z : ◌≡◌ {A = ℕ} 0 1 = cc in absurd (omega arith)
    go false h y q e = let z : ◌≡◌ {A = ℕ} 0 1 = cc in absurd (omega arith)

-- the points that are read again are those of the text
pub points_again : (s : List ℕ) (c : Contents monitor_grammar) → read_text monitor_grammar s ≡ read c
    → points_at s (points_from c.0 c.1.0) ≡ points_said c.1.1.0
points_again s c e =
    let l = lines_at s c e in
    let begin : after_many (line rule_line) (length s) s l.at ≡ points_from c.0 c.1.0 =
    points_begin s l.chart ∙ ap (λ (xs : List (Says rule_line)). points_from c.0 xs) l.rules in
    ap (λ (i : ℕ). points_said (many_at (line point_line) (length s) s i)) (sym begin) ∙ ap points_said l.points

-- ---- a text that is not refused

pub record ReadMonitor (s : List ℕ) (t : MonitorText) : Type 0 where
  pub contents : Contents monitor_grammar
  pub is : read_text monitor_grammar s ≡ read contents
  pub short : length s ≤ max_text
  pub bench : OnBench (points_said contents.1.1.0)
  pub points : points_at s t.points ≡ points_said contents.1.1.0

-- what a text whose contents are read gives, where every node is one of the bench's
pub bench_read : (s : List ℕ) (c : Contents monitor_grammar) → read_text monitor_grammar s ≡ read c → OnBench (points_said c.1.1.0)
    → monitor_text s ≡ Ok (read_monitor c.0.0 c.0.1.0 (rules_said c.1.0) (points_from c.0 c.1.0))
unfolding monitor_text monitor_of bench_or
bench_read s c e o = rw (e, le-ltb (bench_points (points_said c.1.1.0)) (length (points_said c.1.1.0)) (omega (arith, bench_all (points_said c.1.1.0) o)))

pub read_monitor_lem : (s : List ℕ) (t : MonitorText) → monitor_text s ≡ Ok t → ReadMonitor s t
unfolding monitor_text monitor_of bench_or read_monitor
read_monitor_lem s t z = go (read_text monitor_grammar s) refl z
  where
    points_are : (c : Contents monitor_grammar) → read_text monitor_grammar s ≡ read c → OnBench (points_said c.1.1.0)
        → points_at s t.points ≡ points_said c.1.1.0
    points_are c e o = ap (points_in s) (sym z ∙ bench_read s c e o) ∙ points_again s c e

    benched : (c : Contents monitor_grammar) → read_text monitor_grammar s ≡ read c → (b : Bool)
        → ltb (bench_points (points_said c.1.1.0)) (length (points_said c.1.1.0)) ≡ b → monitor_of (read c) ≡ Ok t → ReadMonitor s t
    benched c e true h z =
        let y = rw h at z in
        let f : ◌≡◌ {A = ℕ} 0 1 = cc in
        absurd (omega arith)
    benched c e false h z =
        let o = all_bench (points_said c.1.1.0) (ltb-false _ _ h) in
        record { contents = c; is = e; short = (lines_at s c e).short; bench = o; points = points_are c e o }

    go : (y : Reading (Contents monitor_grammar)) → read_text monitor_grammar s ≡ y → monitor_of y ≡ Ok t → ReadMonitor s t
    go (read c) e z = benched c e (ltb (bench_points (points_said c.1.1.0)) (length (points_said c.1.1.0))) refl z
    go (stopped n) e z = let f : ◌≡◌ {A = ℕ} 0 1 = cc in absurd (omega arith)
    go long e z = let f : ◌≡◌ {A = ℕ} 0 1 = cc in absurd (omega arith)
