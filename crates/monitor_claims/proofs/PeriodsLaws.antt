-- The period fields of one node's lines. Laws.
use Rattle.std.specs.Prelude.{ℕ, ◌+◌, ◌≡◌, Bool, true, false, eqb, ltb, ℤ, length}
use Rattle.std.proofs.Math.Path.{refl, ap}
use Rattle.std.proofs.Common.{◌∙◌, arith, ltb-true, ltb-false, eq-eqb}
use mathlib.Core.List.{List, [], ◌∷◌, ◌++◌, map}
use Rattle.rules.specs.declared.Rule.{Rule}
use Rattle.window.specs.ReferenceChart.{Answer, refused, quiet, signal, row_mask, chart_by}
use Rattle.monitor.specs.Calls.{Said, EachAnswer}
use Rattle.decimal.specs.Decimal.{decimal}
use Rattle.monitor_text.specs.Readings.{NodeReading, node_count, OnBench, readings_of}
use Rattle.monitor_lines.specs.MonitorLines.{quiet_word, signal_word, total_word}
use Rattle.write.specs.Printed.{printed_bytes}
use Rattle.monitor_report.specs.Points.{NodeAnswer, node_answer, NodeTotal, signals_in, bench_answers, node_total, bench_totals}
use Rattle.monitor.specs.Zones.{zones_of}
use Rattle.monitor_report.specs.Points.{answer_lines, total_lines}
use Rattle.monitor_report.specs.MonitorReport.{monitor_printed}
use Rattle.claims.specs.Exact.{free_answers}
use Rattle.monitor_claims.specs.MonitorTexts.{MonitorTextIs}
use Rattle.monitor_claims.specs.MonitorOutput.{plain_chart, MonitorPrints}
use Rattle.monitor_claims.proofs.MonitorProgramLaws.{free_said}
use Rattle.monitor_claims.specs.MonitorOutput.{EachSaid}
use Rattle.monitor_claims.proofs.MonitorPrintedOnce.{monitor_read_off}
use Rattle.monitor_claims.specs.NodeLines.{points_in, last_field, period_fields, count_from}
use Rattle.monitor_claims.proofs.NodeLinesLaws.{point_kept, other_left, last_number}
use Rattle.monitor_claims.proofs.NodeBytesLaws.{plain, words, bodies, total_bodies, in_order, bench_of}
use Rattle.monitor_claims.specs.NodeLines.{answers_of}
use Rattle.monitor_claims.proofs.IsolationLaws.{one_by_one, below, beyond, no_readings}
use Rattle.monitor_claims.specs.NodeLines.{AddsUp}

module _ (k : ℕ) where
  -- the last fields of the lines of answers from the period p on, before lines of which none is a point's
  order_last : (answers : List Answer) (p : ℕ) (ls : List (List ℕ)) → points_in ls ≡ [] → EachAnswer Said answers
      → map last_field (points_in (bodies (in_order k p answers) ++ ls)) ≡ map decimal (count_from p (length answers))
  unfolding bodies in_order count_from EachAnswer
  order_last [] p ls e i = ap (map last_field) e
  order_last (refused n ∷ answers) p ls e i = absurd i.0
  order_last (quiet n ∷ answers) p ls e i =
      ap (map last_field) (point_kept quiet_word plain.0 k (n ∷ p ∷ []) (bodies (in_order k (p + 1) answers) ++ ls) words.0)
      ∙ rw (last_number quiet_word (k ∷ n ∷ []) p, order_last answers (p + 1) ls e i.1)
  order_last (signal n mask ∷ answers) p ls e i =
      ap (map last_field) (point_kept signal_word plain.1 k (n ∷ mask ∷ p ∷ []) (bodies (in_order k (p + 1) answers) ++ ls) words.1)
      ∙ rw (last_number signal_word (k ∷ n ∷ mask ∷ []) p, order_last answers (p + 1) ls e i.1)

  -- a total is no point's
  no_points_in : (answers : List Answer) → points_in (total_bodies k (node_total k answers)) ≡ []
  unfolding total_bodies points_in
  no_points_in [] = refl
  no_points_in (a ∷ rest) =
      rw (eq-eqb k k refl) (other_left total_word plain.2 k (length (a ∷ rest) ∷ signals_in (a ∷ rest) ∷ []) [] words.2)

pub node_periods : {centre : ℤ} {sigma : ℕ} {rs : List Rule} {ps : List NodeReading} {printed : List ℕ} → OnBench ps
    → MonitorPrints centre sigma rs ps printed → (k : ℕ) → period_fields k printed ≡ map decimal (count_from 1 (length (readings_of k ps)))
unfolding points_in count_from
node_periods {centre} {sigma} {rs} {ps} {printed} o t k = go (ltb k node_count) refl
  where
    go : (b : Bool) → ltb k node_count ≡ b → period_fields k printed ≡ map decimal (count_from 1 (length (readings_of k ps)))
    go true e =
        let xs = readings_of k ps in
        let answers = plain_chart rs centre sigma xs in
        ap (λ ls. map last_field (points_in ls)) (below o t k (ltb-true _ _ e))
        ∙ order_last k answers 1 _ (no_points_in k answers) (free_said rs (zones_of centre sigma xs) [])
        ∙ ap (λ n. map decimal (count_from 1 n)) ((one_by_one rs centre sigma).each xs)
    go false e =
        let none = beyond o t k (ltb-false _ _ e) in
        rw (none, no_readings k (ltb-false _ _ e) ps o)

chart_adds : (k : ℕ) (rs : List Rule) (zs row : List ℕ) (runs p : ℕ) → p ≡ runs + length row + 1
    → AddsUp runs (in_order k p (free_answers rs row zs))
unfolding AddsUp in_order free_answers
chart_adds k rs [] row runs p e = tt
chart_adds k rs (z ∷ zs) row runs p e =
    go (row_mask rs (z ∷ row)) _ refl (chart_adds k rs zs (z ∷ row) runs (p + 1) (omega arith))
    (chart_adds k rs zs [] (runs + length (z ∷ row)) (p + 1) (omega arith))
  where
    go : (mask : ℕ) (b : Bool) → eqb mask 0 ≡ b → AddsUp runs (in_order k (p + 1) (free_answers rs (z ∷ row) zs))
        → AddsUp (runs + length (z ∷ row)) (in_order k (p + 1) (free_answers rs [] zs))
        → (let c = chart_by mask (z ∷ row) in AddsUp runs (node_answer k c.answer p ∷ in_order k (p + 1) (free_answers rs c.row zs)))
    go mask true q quietly signalling = rw q (omega arith, quietly)
    go mask false q quietly signalling = rw q (omega arith, signalling)

-- Whoever reads the printed bytes as the lines of any answers, each with a node and a period, finds for every node that they add up: the
-- period of a signal is the sum of the run lengths up to it.
pub periods_add_up : (s : List ℕ) (os : List NodeAnswer) (ts : List NodeTotal) → EachSaid os
    → printed_bytes (monitor_printed s) ≡ answer_lines os ++ total_lines ts → (k : ℕ) → AddsUp 0 (answers_of k os)
periods_add_up s os ts i e k = go (monitor_read_off s os ts i e)
  where
    go : (centre : ℤ) × (sigma : ℕ) × (rs : List Rule) × (ps : List NodeReading) × MonitorTextIs s centre sigma rs ps
        × (os ≡ bench_answers (plain_chart rs centre sigma) [] ps) × (ts ≡ bench_totals (plain_chart rs centre sigma) ps node_count)
        → AddsUp 0 (answers_of k os)
    go (centre, sigma, rs, ps, is, same, totals) =
        rw (same, bench_of (plain_chart rs centre sigma) (one_by_one rs centre sigma) k ps)
        (chart_adds k rs (zones_of centre sigma (readings_of k ps)) [] 0 1 refl)
