-- The nodes' totals, written one behind the other. Laws.
use Rattle.std.specs.Prelude.{ℕ, zero, suc, ◌+◌, ◌≤◌, ◌<◌, ◌≡◌, refl, List, [], ◌∷◌, ◌++◌, length, get_or}
use Rattle.std.proofs.Common.{sym, ap, ◌∙◌, append_assoc, append-nil, eq-eqb, ne_eqb}
use Rattle.write.specs.Wrote.{Wrote}
use Rattle.write.specs.PartsWritten.{joined, PartsWritten}
use Rattle.write.specs.PartsWrittenLaws.{parts_start, parts_more, parts_done}
use Rattle.monitor_text.specs.Readings.{node_count}
use Rattle.monitor_lines.specs.MonitorLines.{total_line, total_room}
use Rattle.monitor_report.specs.declared.nodes.Node.{Node}
use Rattle.monitor_report.specs.Points.{NodeTotal, total_lines}
use Rattle.monitor_report.specs.Nodes.{fresh_node, total_of, totals_of}

-- a node's total, where it has one
abbrev pub total_part : List Node → ℕ → List ℕ
total_part nodes k = total_lines (total_of k (get_or nodes k fresh_node))

-- the totals of the nodes below k stand in the buffer from `at` on, up to `end`
pub record TotalsWritten (before : List ℕ) (at : ℕ) (nodes : List Node) (after : List ℕ) (end k : ℕ) : Type 0 where
  pub parts : PartsWritten before at total_room node_count (total_part nodes) after end k

totals_append : (xs ys : List NodeTotal) → total_lines (xs ++ ys) ≡ total_lines xs ++ total_lines ys
unfolding total_lines
totals_append [] ys = refl
totals_append (t ∷ xs) ys =
    let one = total_line t.node t.points t.signals in
    ap (λ (l : List ℕ). one ++ l) (totals_append xs ys) ∙ sym (append_assoc one (total_lines xs) (total_lines ys))

-- a node with no points has no line, any other has one
pub no_total : (k : ℕ) (n : Node) → n.points ≡ 0 → total_lines (total_of k n) ≡ []
unfolding total_lines
no_total k n e = rw (eq-eqb n.points 0 e)

pub one_total : (k : ℕ) (n : Node) → (n.points ≡ 0 → ⊥) → total_lines (total_of k n) ≡ total_line k n.points n.signals
unfolding total_lines
one_total k n e = rw (ne_eqb n.points 0 e) (append-nil (total_line k n.points n.signals))

totals_joined : (nodes : List Node) (k : ℕ) → joined k (total_part nodes) ≡ total_lines (totals_of nodes k)
unfolding joined totals_of total_lines
totals_joined nodes zero = refl
totals_joined nodes (suc k) = rw (totals_joined nodes k) (sym (totals_append (totals_of nodes k) (total_of k (get_or nodes k fresh_node))))

module _ {before : List ℕ} {at : ℕ} {nodes : List Node} where
  pub totals_start : at ≤ length before → TotalsWritten before at nodes before at 0
  totals_start l = record { parts = parts_start l }

  pub totals_more : {after after' : List ℕ} {end k r : ℕ} {n : Node} → TotalsWritten before at nodes after end k → k < node_count
      → n ≡ get_or nodes k fresh_node → Wrote after end after' r (total_lines (total_of k n)) → r ≤ end + total_room
      → TotalsWritten before at nodes after' r (k + 1)
  totals_more t l e w m = record { parts = parts_more t.parts l (rw e at w) m }

  pub totals_done : {after : List ℕ} {end k : ℕ} → TotalsWritten before at nodes after end k → node_count ≤ k
      → Wrote before at after end (total_lines (totals_of nodes node_count))
  totals_done t l = rw (totals_joined nodes node_count) at (parts_done t.parts l)
