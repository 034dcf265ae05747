-- A bench with the points of one node alone. Laws.
use Prim.Native.Nat.{ℕ, zero, suc}
use Rattle.std.specs.Prelude.{◌≡◌, refl, length, ℤ}
use Rattle.std.proofs.Common.{sym, ap, ◌∙◌, eq-eqb, ne_eqb}
use mathlib.Core.List.{List, [], ◌∷◌, ◌++◌, append_assoc}
use Rattle.std.proofs.Math.Decide.{ℕ_discrete}
use Rattle.rules.specs.declared.Rule.{Rule}
use Rattle.window.specs.ReferenceChart.{Answer, refused, quiet, signal}
use Rattle.monitor.specs.Calls.{Said}
use Rattle.decimal.specs.Fields.{fields}
use Rattle.monitor_text.specs.Readings.{NodeReading, node_count, readings_of}
use Rattle.monitor_lines.specs.MonitorLines.{quiet_word, signal_word, total_word}
use Rattle.monitor_report.specs.Points.{NodeAnswer, NodeTotal, last_answer, point_answer, bench_answers, node_total, bench_totals}
use Rattle.monitor_report.specs.Points.{line_of, answer_lines, total_lines, bench_bytes}
use Rattle.monitor_claims.specs.MonitorLinesLaws.{quiet_shape, signal_shape, total_shape}
use Rattle.monitor_claims.specs.MonitorOutput.{plain_chart}
use Rattle.monitor_claims.specs.MonitorOutput.{EachSaid}
use Rattle.monitor_claims.proofs.MonitorPrintedOnceLaws.{line_for, plain_said}
use Rattle.monitor_claims.specs.NodeLines.{node_lines, with_ends}
use Rattle.monitor_claims.proofs.NodeBytesLaws.{body, bodies, total_bodies, OneByOne, answers_of_lem, totals_of_lem}
use Rattle.monitor_claims.specs.NodeLines.{answers_of}
use Rattle.monitor_claims.proofs.IsolationLaws.{one_by_one}
use Rattle.monitor_claims.specs.NodeLines.{OnlyNode}

-- ---- so is every answer, and every total

unfoldable OnlyAnswers : ℕ → List NodeAnswer → Type 0
OnlyAnswers k [] = Unit {0}
OnlyAnswers k (a ∷ rest) = (a.node ≡ k) × OnlyAnswers k rest

unfoldable OnlyTotals : ℕ → List NodeTotal → Type 0
OnlyTotals k [] = Unit {0}
OnlyTotals k (t ∷ rest) = (t.node ≡ k) × OnlyTotals k rest

only_append : (k : ℕ) (xs ys : List NodeAnswer) → OnlyAnswers k xs → OnlyAnswers k ys → OnlyAnswers k (xs ++ ys)
unfolding OnlyAnswers
only_append k [] ys i j = j
only_append k (a ∷ xs) ys i j = (i.0, only_append k xs ys i.1 j)

totals_append : (k : ℕ) (xs ys : List NodeTotal) → OnlyTotals k xs → OnlyTotals k ys → OnlyTotals k (xs ++ ys)
unfolding OnlyTotals
totals_append k [] ys i j = j
totals_append k (t ∷ xs) ys i j = (i.0, totals_append k xs ys i.1 j)

last_only : (k node : ℕ) → node ≡ k → (answers : List Answer) (period : ℕ) → OnlyAnswers k (last_answer node answers period)
unfolding OnlyAnswers last_answer
last_only k node e [] period = tt
last_only k node e (a ∷ []) period = (e, tt)
last_only k node e (a ∷ b ∷ rest) period = last_only k node e (b ∷ rest) period

other_readings : (k n : ℕ) (ps : List NodeReading) → OnlyNode k ps → (n ≡ k → ⊥) → readings_of n ps ≡ []
unfolding OnlyNode readings_of
other_readings k n [] o d = refl
other_readings k n (p ∷ ps) o d = rw (ne_eqb p.node n (λ q. d (sym q ∙ o.0)), other_readings k n ps o.1 d)

module _ (chart : List ℤ → List Answer) (one : OneByOne chart) (k : ℕ) where
  answers_only : (before ps : List NodeReading) → OnlyNode k ps → OnlyAnswers k (bench_answers chart before ps)
  unfolding OnlyNode OnlyAnswers bench_answers
  answers_only before [] o = tt
  answers_only before (p ∷ ps) o =
      let xs = readings_of p.node (before ++ (p ∷ [])) in
      only_append k (point_answer chart p.node xs) (bench_answers chart (before ++ (p ∷ [])) ps)
      (last_only k p.node o.0 (chart xs) (length xs)) (answers_only (before ++ (p ∷ [])) ps o.1)

  own_only : (answers : List Answer) → OnlyTotals k (node_total k answers)
  unfolding OnlyTotals
  own_only [] = tt
  own_only (a ∷ rest) = (refl, tt)

  total_only : (n : ℕ) (ps : List NodeReading) → OnlyNode k ps → OnlyTotals k (node_total n (chart (readings_of n ps)))
  unfolding OnlyTotals
  total_only n ps o = go (ℕ_discrete n k)
    where
      go : Dec (n ≡ k) → OnlyTotals k (node_total n (chart (readings_of n ps)))
      go (yes q) = rw q (own_only (chart (readings_of k ps)))
      go (no d) = rw (other_readings k n ps o d, one.none) tt

  totals_only : (n : ℕ) (ps : List NodeReading) → OnlyNode k ps → OnlyTotals k (bench_totals chart ps n)
  unfolding OnlyTotals bench_totals
  totals_only zero ps o = tt
  totals_only (suc n) ps o =
      totals_append k (bench_totals chart ps n) (node_total n (chart (readings_of n ps))) (totals_only n ps o) (total_only n ps o)

-- ---- their lines are all of the lines

answer_line : (k : ℕ) (a : Answer) (p : ℕ) → Said a → (rest : List ℕ) → body k a p ++ (10 ∷ rest) ≡ line_of k a p ++ rest
answer_line k (refused n) p i rest = absurd i
answer_line k (quiet n) p i rest = append_assoc quiet_word (fields (k ∷ n ∷ p ∷ [])) (10 ∷ rest) ∙ sym (quiet_shape k n p rest)
answer_line k (signal n mask) p i rest =
    append_assoc signal_word (fields (k ∷ n ∷ mask ∷ p ∷ [])) (10 ∷ rest) ∙ sym (signal_shape k n mask p rest)

ends_totals : (k : ℕ) (ts : List NodeTotal) → OnlyTotals k ts → with_ends (total_bodies k ts) ≡ total_lines ts
unfolding OnlyTotals total_bodies with_ends total_lines
ends_totals k [] o = refl
ends_totals k (t ∷ ts) o =
    rw (eq-eqb t.node k o.0, ends_totals k ts o.1)
    (append_assoc total_word (fields (t.node ∷ t.points ∷ t.signals ∷ [])) (10 ∷ total_lines ts)
    ∙ sym (total_shape t.node t.points t.signals (total_lines ts)))

ends_lines : (k : ℕ) (os : List NodeAnswer) (ts : List NodeTotal) → EachSaid os → OnlyAnswers k os → OnlyTotals k ts
    → with_ends (bodies (answers_of k os) ++ total_bodies k ts) ≡ answer_lines os ++ total_lines ts
unfolding EachSaid OnlyAnswers answers_of bodies with_ends answer_lines
ends_lines k [] ts i o t = ends_totals k ts t
ends_lines k (a ∷ os) ts i o t =
    rw (eq-eqb a.node k o.0, ends_lines k os ts i.1 o.1 t)
    (answer_line a.node a.answer a.period i.0 (answer_lines os ++ total_lines ts)
    ∙ sym (append_assoc (line_for a) (answer_lines os) (total_lines ts)))

pub only_lines : (rs : List Rule) (centre : ℤ) (sigma k : ℕ) (ps : List NodeReading) → OnlyNode k ps
    → with_ends (node_lines k (bench_bytes (plain_chart rs centre sigma) ps)) ≡ bench_bytes (plain_chart rs centre sigma) ps
unfolding bench_bytes
only_lines rs centre sigma k ps o =
    let chart = plain_chart rs centre sigma in
    let one = one_by_one rs centre sigma in
    let said = plain_said rs centre sigma ps in
    let os = bench_answers chart [] ps in
    let ts = bench_totals chart ps node_count in
    ap with_ends (answers_of_lem k os (total_lines ts) said ∙ ap (λ l. bodies (answers_of k os) ++ l) (totals_of_lem k ts))
    ∙ ends_lines k os ts said (answers_only chart one k [] ps o) (totals_only chart one k node_count ps o)
