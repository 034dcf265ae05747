-- Laws of a node: one point more; its monitor can be given; its counts stay small; its total.
use Rattle.std.specs.Prelude.{ℕ, ◌+◌, ◌≤◌, ◌≡◌, refl, true, eqb}
use Rattle.std.proofs.Common.{sym, ap, ◌∙◌, length-append}
use Rattle.std.proofs.Math.Bool.{cond}
use mathlib.Core.List.{List, [], ◌∷◌, ◌++◌}
use native.Mathlib.Omega.{arith}
use Rattle.std.proofs.Math.ListN.{length}
use borrow.Author.Tests.{ne_eqb}
use Rattle.rules.specs.declared.Rule.{Rule}
use Rattle.rules.specs.Bounds.{zone_count}
use Rattle.rules.specs.InBounds.{AllInBounds}
use Rattle.runlength.specs.Sequence.{AllBelow}
use Rattle.monitor.specs.declared.Monitor.{Monitor}
use Rattle.window.specs.State.{valid_state, move_of}
use Rattle.monitor.specs.Step.{fresh_monitor}
use Rattle.rules.specs.Mask.{bit}
use Rattle.window.specs.ReferenceChart.{Answer, quiet, signal, is_signal}
use Rattle.monitor.specs.Take.{taken_by, taken_of, next_of, answer_of, taken_answers}
use Rattle.monitor.specs.declared.Taken.{Taken}
use Rattle.window.specs.declared.Move.{Move}
use Rattle.monitor_report.specs.declared.nodes.Node.{Node}
use Rattle.monitor_lines.specs.MonitorLines.{point_bytes}
use Rattle.monitor.proofs.TakeLaws.{taken_valid}
use Rattle.window.proofs.GivenLaws.{fresh_valid}
use Rattle.monitor_report.specs.Points.{signals_in, node_total, line_of}
use Rattle.monitor_report.specs.Nodes.{node_point, node_taken, taken_after, node_after, total_of}

-- ---- one point more

pub after_more : (rs : List Rule) (m : Monitor) (zs : List ℕ) (z : ℕ) → taken_after rs m (zs ++ (z ∷ [])) ≡ next_of (taken_of rs (taken_after rs m zs) z)
unfolding taken_after
after_more rs m [] z = refl
after_more rs m (y ∷ zs) z = after_more rs (next_of (taken_of rs m y)) zs z

-- the answer to the point behind those in zs
abbrev pub answer_after : List Rule → Monitor → List ℕ → ℕ → Answer
answer_after rs m zs z = answer_of ((taken_after rs m zs).count + 1) (taken_of rs (taken_after rs m zs) z)

pub answers_more : (rs : List Rule) (m : Monitor) (zs : List ℕ) (z : ℕ)
    → taken_answers rs m (zs ++ (z ∷ [])) ≡ taken_answers rs m zs ++ (answer_after rs m zs z ∷ [])
unfolding taken_after taken_answers
answers_more rs m [] z = refl
answers_more rs m (y ∷ zs) z =
    ap (λ (t : List Answer). answer_of (m.count + 1) (taken_of rs m y) ∷ t) (answers_more rs (next_of (taken_of rs m y)) zs z)

pub answers_length : (rs : List Rule) (m : Monitor) (zs : List ℕ) → length (taken_answers rs m zs) ≡ length zs
unfolding taken_answers
answers_length rs m [] = refl
answers_length rs m (z ∷ zs) = omega (arith, answers_length rs (next_of (taken_of rs m z)) zs)

signals_more : (answers : List Answer) (a : Answer) → signals_in (answers ++ (a ∷ [])) ≡ signals_in answers + bit (is_signal a)
unfolding signals_in
signals_more [] a = omega arith
signals_more (x ∷ rest) a = omega (arith, signals_more rest a)

-- the node behind a point that is taken
node_next : (k : ℕ) (n : Node) (count : ℕ) (t : Taken)
    → (node_point k n t).next ≡ record { monitor = next_of t; points = n.points + 1; signals = n.signals + bit (is_signal (answer_of count t)) }
node_next k n count (Taken.Quiet m) = let e : n.signals + 0 ≡ n.signals = omega arith in rw e
node_next k n count (Taken.Signal mask) = refl

pub node_taken_lem : (rs : List Rule) (k : ℕ) (n : Node) (z : ℕ) {t : Taken} → t ≡ taken_of rs n.monitor z → node_point k n t ≡ node_taken rs k n z
unfolding node_taken
node_taken_lem rs k n z e = ap (node_point k n) e

-- the node behind one point more is what the point does to it
pub node_more : (rs : List Rule) (k : ℕ) (zs : List ℕ) (z : ℕ) → node_after rs (zs ++ (z ∷ [])) ≡ (node_taken rs k (node_after rs zs) z).next
unfolding node_after node_taken
node_more rs k zs z =
    let m = taken_after rs fresh_monitor zs in
    let points : length (zs ++ (z ∷ [])) ≡ length zs + 1 = length-append zs (z ∷ []) in
    let before = taken_answers rs fresh_monitor zs in
    let signals : signals_in (taken_answers rs fresh_monitor (zs ++ (z ∷ []))) ≡ signals_in before + bit (is_signal (answer_after rs fresh_monitor zs z)) =
    ap signals_in (answers_more rs fresh_monitor zs z) ∙ signals_more before (answer_after rs fresh_monitor zs z) in
    rw (after_more rs fresh_monitor zs z, points, signals) (sym (node_next k (node_after rs zs) (m.count + 1) (taken_of rs m z)))

-- a point's line is that of its answer
pub node_line : (k : ℕ) (n : Node) (t : Taken) → point_bytes (node_point k n t).line ≡ line_of k (answer_of (n.monitor.count + 1) t) (n.points + 1)
unfolding point_bytes
node_line k n (Taken.Quiet m) = refl
node_line k n (Taken.Signal mask) = refl

-- ---- a node's monitor can be given, and its counts are at most the number of its points

after_valid : (rs : List Rule) → AllInBounds rs → (m : Monitor) → valid_state m.count rs m.state ≡ true → (zs : List ℕ) → AllBelow zone_count zs
    → valid_state (taken_after rs m zs).count rs (taken_after rs m zs).state ≡ true
unfolding taken_after AllBelow
after_valid rs p m v [] b = v
after_valid rs p m v (z ∷ zs) b = after_valid rs p (next_of (taken_of rs m z)) (taken_valid rs p m z b.0 v) zs b.1

count_le : (rs : List Rule) (m : Monitor) (z : ℕ) → (next_of (taken_of rs m z)).count ≤ m.count + 1
unfolding taken_of
count_le rs m z = go (move_of rs m.state z)
  where
    go : (t : Move) → (next_of (taken_by t (m.count + 1))).count ≤ m.count + 1
    go (Move.Quiet s) = omega arith
    go (Move.Signal mask) = omega arith

after_count : (rs : List Rule) (m : Monitor) (zs : List ℕ) → (taken_after rs m zs).count ≤ m.count + length zs
unfolding taken_after
after_count rs m [] = omega arith
after_count rs m (z ∷ zs) = omega (arith, after_count rs (next_of (taken_of rs m z)) zs, count_le rs m z)

one_signal_le : (a : Answer) → bit (is_signal a) ≤ 1
one_signal_le (Answer.refused n) = omega arith
one_signal_le (quiet n) = omega arith
one_signal_le (signal n mask) = omega arith

pub signals_le : (answers : List Answer) → signals_in answers ≤ length answers
unfolding signals_in
signals_le [] = omega arith
signals_le (a ∷ rest) = omega (arith, one_signal_le a, signals_le rest)

module _ (rs : List Rule) (zs : List ℕ) where
  pub node_valid : AllInBounds rs → AllBelow zone_count zs → valid_state (node_after rs zs).monitor.count rs (node_after rs zs).monitor.state ≡ true
  unfolding node_after
  node_valid p b = after_valid rs p fresh_monitor (fresh_valid rs p) zs b

  pub node_small : ((node_after rs zs).monitor.count ≤ length zs) × ((node_after rs zs).points ≤ length zs) × ((node_after rs zs).signals ≤ length zs)
  unfolding node_after
  node_small =
      let answers = taken_answers rs fresh_monitor zs in
      (omega (arith, after_count rs fresh_monitor zs), omega arith, omega (arith, signals_le answers, answers_length rs fresh_monitor zs))

  -- its total is that of its answers
  pub node_total_lem : (k : ℕ) → total_of k (node_after rs zs) ≡ node_total k (taken_answers rs fresh_monitor zs)
  unfolding node_after
  node_total_lem k = go (taken_answers rs fresh_monitor zs) (answers_length rs fresh_monitor zs)
    where
      go : (answers : List Answer) → length answers ≡ length zs
          → cond (eqb (length zs) 0) [] (record { node = k; points = length zs; signals = signals_in answers } ∷ []) ≡ node_total k answers
      go [] e = rw (← e)
      go (a ∷ rest) e = rw (← e, ne_eqb (length (a ∷ rest)) 0 (λ q. omega arith))
