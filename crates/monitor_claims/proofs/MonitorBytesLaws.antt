-- The monitor program's text by its contents. Laws.
use Rattle.std.specs.Prelude.{ℕ, ◌+◌, ◌≤◌, ◌<◌, ◌≡◌, refl, Bool, true, false, cond, List, [], ◌∷◌, ◌++◌, ltb, ℤ, length, Result, Ok, Err}
use Rattle.std.proofs.Common.{sym, ap, ◌∙◌, arith, length-append, ltb-true, ltb-false, lt-ltb}
use Rattle.rules.specs.declared.Rule.{Rule}
use Rattle.rules.specs.declared.refusal.Refusal.{Refusal}
use Rattle.rules.specs.Bounds.{max_rules}
use Rattle.rules.specs.Check.{active_rules}
use Rattle.rules.specs.Refusal.{bad_node}
use Rattle.grammar.specs.Size.{max_text}
use Rattle.grammar.specs.Form.{Saying, Says, line}
use Rattle.grammar.specs.Grammar.{Contents, many_lines, lines_of, AllFit, TextIs}
use Rattle.grammar.proofs.LinesLaws.{fit_append, fit_split}
use Rattle.grammar.specs.TextReading.{read_text}
use Rattle.grammar.specs.Read.{Reading}
use Rattle.grammar.specs.Read.{read as contents}
use Rattle.grammar.specs.Read.{ReadingIs, right, wrong}
use Rattle.grammar.specs.Read.{too_long_lem as beyond}
use Rattle.grammar.proofs.EveryGrammar.{contents_once, reading_is, is_reading}
use Rattle.rule_lines.specs.Rules.{rule_line, rule_values, rules_said, rule_list_of}
use Rattle.rule_lines.specs.RulesLaws.{active_rules_lem, said_length}
use Rattle.rule_lines.specs.RulesLaws.{said_values as rules-back, values_said as rules-again}
use Rattle.monitor_text.specs.declared.monitors.MonitorText.{MonitorText}
use Rattle.monitor_text.specs.Readings.{NodeReading, OnBench, bench_points}
use Rattle.monitor_text.specs.ReadingsLaws.{all_bench, first_off, off_place}
use Rattle.monitor_text.specs.MonitorGrammar.{point_line, monitor_grammar, point_values, points_said, monitor_contents}
use Rattle.monitor_text.specs.PointLineLaws.{said_values, values_said}
use Rattle.monitor_text.specs.MonitorText.{points_in, bench_or, monitor_of, monitor_text, monitor_points, points_at}
use Rattle.monitor_text.specs.ReadMonitor.{read_monitor, points_from}
use Rattle.monitor_text.specs.MonitorTextLaws.{clear_monitor}
use Rattle.monitor_text.specs.AcceptedLaws.{bench_read, points_again}
use Rattle.monitor_claims.specs.MonitorTexts.{MonitorTextIs, OffBench, MonitorReading, too_long_lem, stopped, off_bench, read}

-- ---- what contents say: a chart, rules and points

abbrev rules_of_text : Contents monitor_grammar → List Rule
rules_of_text c = rules_said c.1.0

abbrev points_of_text : Contents monitor_grammar → List NodeReading
points_of_text c = points_said c.1.1.0

contents_said : (c : Contents monitor_grammar) → monitor_contents c.0.0 c.0.1.0 (rules_of_text c) (points_of_text c) ≡ c
contents_said c =
    let rs = rules-again c.1.0 in
    let ps = values_said c.1.1.0 in
    λ i. (c.0, (rs i, (ps i, tt)))

-- A text whose contents these are is the text of what they say.
monitor_is : {s : List ℕ} (c : Contents monitor_grammar) → TextIs monitor_grammar c s → length s ≤ max_text
    → MonitorTextIs s c.0.0 c.0.1.0 (rules_of_text c) (points_of_text c)
monitor_is c t l = record { text = rw (contents_said c) t; short = l }

-- and is read so
read_contents : {s : List ℕ} {c : ℤ} {d : ℕ} {rs : List Rule} {ps : List NodeReading} → MonitorTextIs s c d rs ps
    → read_text monitor_grammar s ≡ contents (monitor_contents c d rs ps)
read_contents {s} t = is_reading monitor_grammar clear_monitor s (right t.short t.text)

-- ---- the lines of a chart, rules and points

rules_length : (rs : List Rule) → length (many_lines (line rule_line) (rule_values rs)) ≡ length rs
unfolding many_lines rule_values
rules_length [] = refl
rules_length (r ∷ rs) = omega (arith, rules_length rs)

points_length : (ps : List NodeReading) → length (many_lines (line point_line) (point_values ps)) ≡ length ps
unfolding many_lines point_values
points_length [] = refl
points_length (p ∷ ps) = omega (arith, points_length ps)

values_length : (rs : List Rule) → length (rule_values rs) ≡ length rs
unfolding rule_values
values_length [] = refl
values_length (r ∷ rs) = omega (arith, values_length rs)

lines_length : (c : ℤ) (d : ℕ) (rs : List Rule) (ps : List NodeReading)
    → length (lines_of monitor_grammar (monitor_contents c d rs ps)) ≡ 1 + length rs + length ps
unfolding lines_of
lines_length c d rs ps =
    let rules = many_lines (line rule_line) (rule_values rs) in
    let points = many_lines (line point_line) (point_values ps) in
    omega (arith, length-append rules (points ++ []), length-append points [], rules_length rs, points_length ps)

-- the lines before a point are within 32 bits, as all are
points_front : (before more : List NodeReading) → AllFit (many_lines (line point_line) (point_values (before ++ more)) ++ [])
    → AllFit (many_lines (line point_line) (point_values before) ++ [])
unfolding many_lines point_values AllFit
points_front [] more i = tt
points_front (p ∷ before) more i = (i.0, points_front before more i.1)

pub front_fits : (c : ℤ) (d : ℕ) (rs : List Rule) (before more : List NodeReading) → AllFit (lines_of monitor_grammar (monitor_contents c d rs (before ++ more)))
    → AllFit (lines_of monitor_grammar (monitor_contents c d rs before))
unfolding lines_of AllFit
front_fits c d rs before more i =
    let rules = many_lines (line rule_line) (rule_values rs) in
    let points : List NodeReading → List Saying = λ ps. many_lines (line point_line) (point_values ps) ++ [] in
    let parts = fit_split rules (points (before ++ more)) i.1 in
    (i.0, fit_append rules (points before) parts.0 (points_front before more parts.1))

-- ---- every text is one of the four kinds

module _ (s : List ℕ) (short : length s ≤ max_text) (c : Contents monitor_grammar) (t : TextIs monitor_grammar c s) where
  off : bench_points (points_of_text c) < length (points_of_text c) → OffBench s c.0.0 c.0.1.0 (rules_of_text c) (2 + length c.1.0 + bench_points (points_of_text c))
  off l =
      let f = first_off (points_of_text c) l in
      let is = rw f.split at (monitor_is c t short) in
      record {
        before = f.before;
        point = f.point;
        after = f.after;
        text = is;
        good = f.good;
        bad = f.bad;
        line = omega (arith, f.place, lines_length c.0.0 c.0.1.0 (rules_of_text c) f.before, said_length c.1.0);
      }

  benched : (b : Bool) → ltb (bench_points (points_of_text c)) (length (points_of_text c)) ≡ b
      → MonitorReading s (cond b (Err (bad_node (2 + length c.1.0 + bench_points (points_of_text c))))
      (Ok (read_monitor c.0.0 c.0.1.0 (rules_of_text c) (points_from c.0 c.1.0))))
  benched true e = off_bench c.0.0 c.0.1.0 (rules_of_text c) _ (off (ltb-true _ _ e))
  benched false e =
      put (rules-again c.1.0)
      (read c.0.0 c.0.1.0 (rules_of_text c) (points_of_text c) (monitor_is c t short) (all_bench (points_of_text c) (ltb-false _ _ e)))
    where
      put : {xs ys : List (Says rule_line)} → xs ≡ ys
          → MonitorReading s (Ok (read_monitor c.0.0 c.0.1.0 (rules_of_text c) (points_from c.0 xs)))
          → MonitorReading s (Ok (read_monitor c.0.0 c.0.1.0 (rules_of_text c) (points_from c.0 ys)))
      put q r = rw (← q) r

-- Every text is refused by 17; or by 16, at the line where it stops being one; or by 19, at the first point whose node is none of the bench's; or it
-- is read.
pub monitor_reading : (s : List ℕ) → MonitorReading s (monitor_text s)
unfolding monitor_text monitor_of bench_or
monitor_reading s = go (read_text monitor_grammar s) (reading_is monitor_grammar clear_monitor s)
  where
    go : (r : Reading (Contents monitor_grammar)) → ReadingIs monitor_grammar s r → MonitorReading s (monitor_of r)
    go r (beyond l) = too_long_lem l
    go r (wrong {n} l st) = stopped n l st
    go r (right {c} l t) = benched s l c t (ltb (bench_points (points_of_text c)) (length (points_of_text c))) refl

-- ---- the lines of a chart, rules and points are read back

pub monitor_read : {s : List ℕ} {c : ℤ} {d : ℕ} {rs : List Rule} {ps : List NodeReading} → MonitorTextIs s c d rs ps → OnBench ps
    → (at : ℕ) × (monitor_text s ≡ Ok (read_monitor c d rs at)) × (monitor_points s ≡ ps)
unfolding read_monitor
monitor_read {s} {c} {d} {rs} {ps} t o =
    let all = monitor_contents c d rs ps in
    let e = read_contents t in
    let bench : OnBench (points_said (point_values ps)) = rw (said_values ps) o in
    let at = points_from (c, (d, tt)) (rule_values rs) in
    let given = bench_read s all e bench in (
      at,
      given ∙ ap (λ (l : List Rule). Ok (read_monitor c d l at)) (rules-back rs),
      ap (points_in s) given ∙ points_again s all e ∙ said_values ps,
    )

-- A text with a point whose node is none of the bench's is refused by 19, at the first such point.
pub monitor_off_bench : {s : List ℕ} {c : ℤ} {d : ℕ} {rs : List Rule} {place : ℕ} → OffBench s c d rs place
    → monitor_text s ≡ Err (bad_node place)
unfolding monitor_text monitor_of bench_or
monitor_off_bench {s} {c} {d} {rs} {place} o =
    let ps : List NodeReading = o.before ++ (o.point ∷ o.after) in
    let first : bench_points ps ≡ length o.before = off_place o.before o.point o.after o.good o.bad in
    let few : bench_points ps < length ps = omega (arith, length-append o.before (o.point ∷ o.after)) in
    let line : 2 + length (rule_values rs) + bench_points ps ≡ place =
    omega (arith, o.line, lines_length c d rs o.before, values_length rs) in
    rw (read_contents o.text, said_values ps, lt-ltb (bench_points ps) (length ps) few, line)

-- A text is the lines of at most one chart, one list of rules and one list of points.
pub monitor_text_once : {s : List ℕ} {c c' : ℤ} {d d' : ℕ} {rs rs' : List Rule} {ps ps' : List NodeReading} → MonitorTextIs s c d rs ps
    → MonitorTextIs s c' d' rs' ps'
    → (c ≡ c') × (d ≡ d') × (rs ≡ rs') × (ps ≡ ps')
monitor_text_once {s} {c} {c'} {d} {d'} {rs} {rs'} {ps} {ps'} t t' =
    let e = contents_once clear_monitor t.text t'.text in (
      ap (λ (a : Contents monitor_grammar). a.0.0) e,
      ap (λ (a : Contents monitor_grammar). a.0.1.0) e,
      sym (rules-back rs) ∙ ap rules_of_text e ∙ rules-back rs',
      sym (said_values ps) ∙ ap points_of_text e ∙ said_values ps',
    )

-- A text is accepted exactly where it is the lines of a chart, rules and points of the bench's nodes: then it gives these.
pub monitor_accepted : (s : List ℕ) (t : MonitorText) → monitor_text s ≡ Ok t
    → (c : ℤ) × (d : ℕ) × (rs : List Rule) × (ps : List NodeReading) × MonitorTextIs s c d rs ps × OnBench ps
monitor_accepted s t z = go (monitor_text s) (monitor_reading s) z
  where
    go : (y : Result MonitorText Refusal) → MonitorReading s y → y ≡ Ok t
        → (c : ℤ) × (d : ℕ) × (rs : List Rule) × (ps : List NodeReading) × MonitorTextIs s c d rs ps × OnBench ps
    go y (too_long_lem l) z = absurd (let z : ◌≡◌ {A = ℕ} 0 1 = cc in omega arith)
    go y (stopped place l st) z = absurd (let z : ◌≡◌ {A = ℕ} 0 1 = cc in omega arith)
    go y (off_bench c d rs place o) z = absurd (let z : ◌≡◌ {A = ℕ} 0 1 = cc in omega arith)
    go y (read c d rs ps i o) z = (c, d, rs, ps, i, o)

-- The same by the equations with what is read, for the rules that a list has slots for.
pub monitor_exactly : {s : List ℕ} {c : ℤ} {d : ℕ} {rs : List Rule} (at : ℕ) {ps : List NodeReading} → length rs ≤ max_rules
    → monitor_text s ≡ Ok (read_monitor c d rs at) → monitor_points s ≡ ps → MonitorTextIs s c d rs ps × OnBench ps
unfolding read_monitor rule_list_of
monitor_exactly {s} {c} {d} {rs} at {ps} few e points =
    let a = monitor_accepted s (read_monitor c d rs at) e in
    let r = monitor_read a.4 a.5 in
    let both : ◌≡◌ {A = Result MonitorText Refusal} (Ok (read_monitor a.0 a.1 a.2 r.0)) (Ok (read_monitor c d rs at)) = sym r.1 ∙ e in
    let same : read_monitor a.0 a.1 a.2 r.0 ≡ read_monitor c d rs at = cc in
    let cs : a.0 ≡ c = ap (λ (t : MonitorText). t.centre) same in
    let ds : a.1 ≡ d = ap (λ (t : MonitorText). t.sigma) same in
    let count : length a.2 ≡ length rs = ap (λ (t : MonitorText). t.list.len) same in
    let list : active_rules (rule_list_of a.2) ≡ active_rules (rule_list_of rs) = ap (λ (t : MonitorText). active_rules t.list) same in
    let rules : a.2 ≡ rs = sym (active_rules_lem a.2 (omega arith)) ∙ list ∙ active_rules_lem rs few in
    put cs ds rules (sym r.2 ∙ points) a.4 a.5
  where
    put : {v v' : ℤ} {n n' : ℕ} {l l' : List Rule} {q q' : List NodeReading} → v ≡ v' → n ≡ n' → l ≡ l' → q ≡ q' → MonitorTextIs s v n l q → OnBench q
        → MonitorTextIs s v' n' l' q' × OnBench q'
    put a b c d t o = (rw (← a, ← b, ← c, ← d) t, rw (← d) o)
