-- What the monitor program prints, case by case. Laws.
use Rattle.std.specs.Prelude.{ℕ, ◌≤◌, ◌≡◌, Bool, cond, List, [], ◌∷◌, eqb, ℤ, length, Err, Ok, Result}
use Rattle.std.proofs.Math.Path.{refl}
use Rattle.std.proofs.Common.{sym, ap, ◌∙◌, arith, le-leb}
use Rattle.std.proofs.Math.Bool.{true, false}
use Rattle.rules.specs.declared.Rule.{Rule}
use Rattle.rules.specs.declared.RuleList.{RuleList}
use Rattle.rules.specs.declared.refusal.Refusal.{Refusal}
use Rattle.rules.specs.Refusal.{place_of, number_of, bad_sigma}
use Rattle.rules.specs.Check.{Checked, within, or_else, unless, active_rules, check_of}
use Rattle.rules.proofs.CheckLaws.{between}
use Rattle.rules.proofs.NumbersLaws.{list_number}
use Rattle.monitor.specs.Zone.{min_sigma, max_sigma}
use Rattle.rules.specs.Bounds.{max_number}
use Rattle.window.specs.ReferenceChart.{quiet, signal, row_mask, charted}
use Rattle.monitor.specs.Calls.{Said, EachAnswer}
use Rattle.monitor.proofs.AgreementLaws.{monitor_agrees}
use Rattle.monitor_text.specs.declared.monitors.MonitorText.{MonitorText}
use Rattle.rule_lines.specs.Rules.{rule_list_of}
use Rattle.monitor_text.specs.Readings.{NodeReading, OnBench, readings_of}
use Rattle.rule_lines.specs.RulesLaws.{active_rules_lem, rules_few}
use Rattle.monitor_text.specs.ReadingsLaws.{readings_few}
use Rattle.monitor_text.specs.PointLineLaws.{points_fit}
use Rattle.monitor_text.specs.MonitorText.{monitor_text, points_at, points_in}
use Rattle.monitor_text.specs.ReadMonitor.{read_monitor}
use Rattle.write.specs.Printed.{printed_by, printed_bytes}
use Rattle.monitor_report.specs.Points.{bench_bytes}
use Rattle.monitor.specs.Zones.{zones_of}
use Rattle.monitor_report.specs.MonitorReport.{reading_answers, monitor_check, bench_of, monitor_printed}
use Rattle.monitor_report.proofs.MonitorReportLaws.{bytes_same}
use Rattle.monitor.specs.ZonesLaws.{zones_exist, zones_length}
use Rattle.claims.specs.Exact.{free_answers}
use Rattle.claims.proofs.MonitorLaws.{monitor_free}
use Rattle.monitor_claims.specs.MonitorTexts.{MonitorTextIs, MonitorReading, too_long_lem, stopped, off_bench, read}
use Rattle.monitor_claims.proofs.MonitorBytes.{monitor_reading, monitor_read, monitor_text_once, monitor_stopped, monitor_off_bench, monitor_too_long as text-too-long}
use Rattle.monitor_claims.specs.MonitorOutput.{plain_chart, MonitorPrints, MonitorProgram, bad_node_lem, bad_rules, bad_sigma_lem}
use Rattle.monitor_claims.specs.MonitorOutput.{refuses as monitor-refuses, prints as monitor_prints, too_long_lem as monitor_too_long, bad_line_lem as monitor-bad-line}

-- the chart that refuses none says quiet or signal each time
pub free_said : (rs : List Rule) (zs row : List ℕ) → EachAnswer Said (free_answers rs row zs)
unfolding free_answers EachAnswer
free_said rs [] row = tt
free_said rs (z ∷ zs) row = (go (eqb (row_mask rs (z ∷ row)) 0), free_said rs zs _)
  where
    go : (b : Bool) → Said (cond b (charted (quiet (length (z ∷ row))) (z ∷ row)) (charted (signal (length (z ∷ row)) (row_mask rs (z ∷ row))) [])).answer
    go true = tt
    go false = tt

module _ (l : RuleList) (ok : check_of l ≡ Ok tt) (centre : ℤ) (sigma : ℕ) where
  -- a fresh monitor answers few readings as the plain chart does
  free : (xs : List ℤ) → length xs ≤ max_number → reading_answers l centre sigma xs ≡ plain_chart (active_rules l) centre sigma xs
  free xs few = monitor_free l ok (zones_of centre sigma xs) (zones_exist centre sigma xs) (omega (arith, zones_length centre sigma xs))

  points_printed : (ps : List NodeReading) → length ps ≤ max_number
      → MonitorPrints centre sigma (active_rules l) ps (bench_bytes (reading_answers l centre sigma) ps)
  points_printed ps few =
      record {
        lines = bytes_same {n = max_number} free ps few;
        chart = λ node.
            let xs = readings_of node ps in
            sym (monitor_agrees l ok (zones_of centre sigma xs)) ∙ free xs (omega (arith, readings_few node ps));
        said = λ node. free_said (active_rules l) (zones_of centre sigma (readings_of node ps)) [];
      }

same_points : {centre : ℤ} {sigma : ℕ} {rs rs' : List Rule} {ps : List NodeReading} {printed : List ℕ} → rs ≡ rs'
    → MonitorPrints centre sigma rs ps printed
    → MonitorPrints centre sigma rs' ps printed
same_points p t = rw (← p) t

outside : (low high x : ℕ) → within low high x ≡ false → (low ≤ x) × (x ≤ high) → ⊥
outside low high x e i =
    let q : within low high x ≡ true = rw (le-leb low x i.0, le-leb x high i.1) in
    let z : ◌≡◌ {A = ℕ} 0 1 = cc in
    omega arith

module _ (s : List ℕ) (centre : ℤ) (sigma : ℕ) (rs : List Rule) (ps : List NodeReading)
    (is : MonitorTextIs s centre sigma rs ps) (o : OnBench ps) (few : length ps ≤ max_number) where
  -- the lines, if nothing is refused
  shown : List ℕ
  shown = bench_bytes (reading_answers (rule_list_of rs) centre sigma) ps

  by_sigma : check_of (rule_list_of rs) ≡ Ok tt → (t : Bool) → within min_sigma max_sigma sigma ≡ t
      → MonitorProgram s (printed_bytes (printed_by (unless t bad_sigma) shown))
  unfolding printed_bytes shown
  by_sigma ok true e =
      monitor_prints centre sigma rs ps is o ok (between min_sigma max_sigma sigma e)
      (same_points (active_rules_lem rs (rules_few rs ok)) (points_printed (rule_list_of rs) ok centre sigma ps few))
  by_sigma ok false e = monitor-refuses 1 0 refl (bad_sigma_lem centre sigma rs ps is o ok (outside min_sigma max_sigma sigma e))

  by_check : (c : Checked) → check_of (rule_list_of rs) ≡ c
      → MonitorProgram s (printed_bytes (printed_by (or_else c (unless (within min_sigma max_sigma sigma) bad_sigma)) shown))
  unfolding printed_bytes
  by_check (Ok _) e = by_sigma e (within min_sigma max_sigma sigma) refl
  by_check (Err x) e = monitor-refuses (number_of x) (place_of x) refl (bad_rules centre sigma rs ps x is o e (list_number (rule_list_of rs) x e))

-- a text has few points
text_few : {s : List ℕ} {centre : ℤ} {sigma : ℕ} {rs : List Rule} {ps : List NodeReading} → MonitorTextIs s centre sigma rs ps → OnBench ps
    → length ps ≤ max_number
unfolding read_monitor
text_few {s} {centre} {sigma} {rs} {ps} t o =
    let m = monitor_read t o in
    let points : points_at s m.0 ≡ ps = sym (ap (points_in s) m.1) ∙ m.2 in
    omega (arith, points_fit (length s) s m.0, ap length points, t.short)

-- For every text: one refusal line, with the number and the place of a reason that holds of the text; or the text is the lines of a chart, rules
-- and points of the bench's nodes, and what is printed is exactly the lines of each node's plain chart on that node's readings, and the totals.
pub monitor_program : (s : List ℕ) → MonitorProgram s (printed_bytes (monitor_printed s))
unfolding monitor_printed printed_bytes read_monitor shown
monitor_program s = go (monitor_text s) (monitor_reading s) (λ c d rs ps i o. (monitor_read i o).2)
  where
    go : (t : Result MonitorText Refusal) → MonitorReading s t
        → ((c : ℤ) (d : ℕ) (rs : List Rule) (ps : List NodeReading) → MonitorTextIs s c d rs ps → OnBench ps → points_in s t ≡ ps)
        → MonitorProgram s (printed_bytes (printed_by (monitor_check t) (bench_of t (points_in s t))))
    go t (too_long_lem l) f = monitor-refuses 17 0 refl (monitor_too_long l)
    go t (stopped place l st) f = monitor-refuses 16 place refl (monitor-bad-line place l st)
    go t (off_bench c d rs place o) f = monitor-refuses 19 place refl (bad_node_lem c d rs place o)
    go t (read c d rs ps i o) f = rw (f c d rs ps i o) (by_check s c d rs ps i o (text_few i o) (check_of (rule_list_of rs)) refl)

-- The other way round: a text that is the lines of a chart, rules and points which are in bounds is not refused.
pub monitor_printed_lem : {s : List ℕ} {c : ℤ} {d : ℕ} {rs : List Rule} {ps : List NodeReading} → MonitorTextIs s c d rs ps → OnBench ps
    → check_of (rule_list_of rs) ≡ Ok tt
    → (min_sigma ≤ d) × (d ≤ max_sigma) → MonitorPrints c d rs ps (printed_bytes (monitor_printed s))
unfolding read_monitor
monitor_printed_lem {s} {c} {d} {rs} {ps} is o ok bounds = go (monitor_program s)
  where
    clash : {A : Type 0} {x : Refusal} → monitor_text s ≡ Err x → A
    clash {A} {x} e =
        let m = monitor_read is o in
        let same : ◌≡◌ {A = Result MonitorText Refusal} (Err x) (Ok (read_monitor c d rs m.0)) = sym e ∙ m.1 in
        absurd (let z : ◌≡◌ {A = ℕ} 0 1 = cc in omega arith)

    checked : {c' : ℤ} {d' : ℕ} {rs' : List Rule} {ps' : List NodeReading} {x : Refusal} → MonitorTextIs s c' d' rs' ps'
        → check_of (rule_list_of rs') ≡ Err x → ⊥
    checked {c'} {d'} {rs'} {ps'} {x} is' e =
        let q : check_of (rule_list_of rs) ≡ Err x = rw (monitor_text_once is is').2 e in
        let z : ◌≡◌ {A = ℕ} 0 1 = cc in
        omega arith

    put : {c' : ℤ} {d' : ℕ} {rs' : List Rule} {ps' : List NodeReading} {printed : List ℕ} → c' ≡ c → d' ≡ d → rs' ≡ rs → ps' ≡ ps
        → MonitorPrints c' d' rs' ps' printed → MonitorPrints c d rs ps printed
    put p q r t m = rw (← p, ← q, ← r, ← t) m

    go : MonitorProgram s (printed_bytes (monitor_printed s)) → MonitorPrints c d rs ps (printed_bytes (monitor_printed s))
    go (monitor-refuses n p e (monitor_too_long l)) = clash (text-too-long s l)
    go (monitor-refuses n p e (monitor-bad-line place l st)) = clash (monitor_stopped l st)
    go (monitor-refuses n p e (bad_node_lem c' d' rs' place off)) = clash (monitor_off_bench off)
    go (monitor-refuses n p e (bad_rules c' d' rs' ps' x is' o' q r)) = absurd (checked is' q)
    go (monitor-refuses n p e (bad_sigma_lem c' d' rs' ps' is' o' q b)) = absurd (b (rw (← (monitor_text_once is is').1) bounds))
    go (monitor_prints c' d' rs' ps' is' o' q b m) =
        let once = monitor_text_once is' is in
        put once.0 once.1 once.2 once.3 m
