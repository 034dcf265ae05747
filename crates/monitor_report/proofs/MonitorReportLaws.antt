-- What the monitor program prints, case by case; and that none of its points is refused.
use Prim.Native.Nat.{ℕ, zero, suc, ◌+◌, ◌*◌, ◌≤◌}
use Rattle.std.specs.Prelude.{◌≡◌, true, false, ℤ, Err, Ok}
use Rattle.std.proofs.Math.Path.{refl}
use mathlib.Core.List.{List, [], ◌∷◌, ◌++◌}
use Rattle.std.proofs.Common.{arith}
use Rattle.std.proofs.Math.ListN.{length, length-append}
use Rattle.rules.specs.declared.RuleList.{RuleList}
use Rattle.rules.specs.declared.refusal.Refusal.{Refusal}
use Rattle.rules.specs.Check.{active_rules, check_of, within}
use Rattle.rules.proofs.CheckLaws.{accepted}
use Rattle.rules.specs.Refusal.{bad_sigma}
use Rattle.monitor.specs.Zone.{min_sigma, max_sigma}
use Rattle.grammar.specs.Size.{max_text}
use Rattle.rules.specs.Bounds.{max_number}
use Rattle.monitor.specs.Step.{fresh_monitor}
use Rattle.window.specs.ReferenceChart.{Answer}
use Rattle.monitor.specs.Calls.{Said, EachAnswer}
use Rattle.monitor.proofs.AgreementLaws.{no_refused_call}
use Rattle.monitor.specs.Take.{taken_answers}
use Rattle.monitor.proofs.TakeLaws.{taken_answers_lem}
use Rattle.window.proofs.GivenLaws.{fresh_valid}
use Rattle.write.specs.Wrote.{Wrote}
use Rattle.monitor_text.specs.declared.monitors.MonitorText.{MonitorText}
use Rattle.monitor_text.specs.Readings.{NodeReading, node_count, OnBench, readings_of}
use Rattle.monitor_text.specs.ReadingsLaws.{readings_few}
use Rattle.monitor_text.specs.MonitorText.{points_at, monitor_text}
use Rattle.monitor_text.specs.PointLineLaws.{points_fit}
use Rattle.monitor_text.specs.AcceptedLaws.{ReadMonitor, read_monitor_lem}
use Rattle.write.specs.Printed.{report, report_of}
use Rattle.write.proofs.PrintedLaws.{as_written}
use Rattle.monitor_report.specs.Points.{min_point, bench_answers, bench_totals, bench_bytes}
use Rattle.monitor.specs.Zones.{zones_of}
use Rattle.monitor.specs.ZonesLaws.{zones_exist, zones_length}
use Rattle.monitor_report.specs.Nodes.{taken_chart}
use Rattle.monitor_report.specs.MonitorReport.{reading_answers, monitor_printed}

-- ---- the points' answers

module _ (l : RuleList) (a : check_of l ≡ Ok tt) (centre : ℤ) (sigma : ℕ) (xs : List ℤ) (few : length xs ≤ max_number) where
  -- with accepted rules no point is refused: each is quiet or a signal, and has a line
  pub no_point_refused : EachAnswer Said (reading_answers l centre sigma xs)
  no_point_refused = no_refused_call l a (zones_of centre sigma xs) (zones_exist centre sigma xs) (omega (arith, zones_length centre sigma xs))

  -- so the answers are those of points that are taken one by one
  taken_one_by_one : reading_answers l centre sigma xs ≡ taken_answers (active_rules l) fresh_monitor (zones_of centre sigma xs)
  taken_one_by_one =
      taken_answers_lem l a fresh_monitor (fresh_valid (active_rules l) (accepted l a).2) (zones_of centre sigma xs) (zones_exist centre sigma xs)
      (omega (arith, zones_length centre sigma xs))

-- ---- charts that answer alike have the same lines

module _ {chart chart' : List ℤ → List Answer} {n : ℕ} (same : (xs : List ℤ) → length xs ≤ n → chart xs ≡ chart' xs) where
  bench_same : (before ps : List NodeReading) → length before + length ps ≤ n → bench_answers chart before ps ≡ bench_answers chart' before ps
  unfolding bench_answers
  bench_same before [] l = refl
  bench_same before (p ∷ ps) l =
      let more : length (before ++ (p ∷ [])) ≡ length before + 1 = length-append before (p ∷ []) in
      let one = same (readings_of p.node (before ++ (p ∷ []))) (omega (arith, readings_few p.node (before ++ (p ∷ [])))) in
      rw (one, bench_same (before ++ (p ∷ [])) ps (omega arith))

  totals_same : (ps : List NodeReading) → length ps ≤ n → (k : ℕ) → bench_totals chart ps k ≡ bench_totals chart' ps k
  unfolding bench_totals
  totals_same ps l zero = refl
  totals_same ps l (suc k) = rw (totals_same ps l k, same (readings_of k ps) (omega (arith, readings_few k ps)))

  pub bytes_same : (ps : List NodeReading) → length ps ≤ n → bench_bytes chart ps ≡ bench_bytes chart' ps
  unfolding bench_bytes
  bytes_same ps l = rw (bench_same [] ps (omega arith), totals_same ps l node_count)

-- ---- the report of a text

module _ (s out : List ℕ) where
  pub monitor_refused : (x : Refusal) → monitor_text s ≡ Err x → report (Err x) out ≡ report_of (monitor_printed s) out
  unfolding monitor_printed
  monitor_refused x e = rw e

  module _ {t : MonitorText} (read : monitor_text s ≡ Ok t) where
    pub rules_refused : (x : Refusal) → check_of t.list ≡ Err x → report (Err x) out ≡ report_of (monitor_printed s) out
    unfolding monitor_printed
    rules_refused x e = rw (read, e)

    module _ (ok : check_of t.list ≡ Ok tt) where
      pub sigma_refused : within min_sigma max_sigma t.sigma ≡ false → report (Err bad_sigma) out ≡ report_of (monitor_printed s) out
      unfolding monitor_printed
      sigma_refused h = rw (read, ok, h)

      module _ (fits : within min_sigma max_sigma t.sigma ≡ true) where
        text_read : ReadMonitor s t
        text_read = read_monitor_lem s t read

        pub text_short : length s ≤ max_text
        text_short = text_read.short

        pub points_bench : OnBench (points_at s t.points)
        points_bench = rw text_read.points text_read.bench

        pub points_few : min_point * length (points_at s t.points) ≤ length s
        points_few = points_fit (length s) s t.points

        pub points_written : {centre : ℤ} → centre ≡ t.centre → (out' : List ℕ) (r : ℕ)
            → Wrote out 0 out' r (bench_bytes (taken_chart (active_rules t.list) centre t.sigma) (points_at s t.points))
            → report (Ok r) out' ≡ report_of (monitor_printed s) out
        unfolding monitor_printed
        points_written {centre} c out' r w =
            let ps : List NodeReading = points_at s t.points in
            let taken = taken_one_by_one t.list ok t.centre t.sigma in
            let bytes = bytes_same {n = max_number} taken ps (omega (arith, points_few, text_short)) in
            as_written {p = monitor_printed s} out out' r
            (rw (read, ok, fits, bytes)) (rw c at w)
