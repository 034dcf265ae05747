-- `put_rows` meets its contract. The invariant: the rows so far are written, `cdf` is the sum of their chances, and the other numbers are left.
use native.Mathlib.Omega.{arith}
use Prim.Native.Nat.{◌≤◌}
use mathlib.Core.Path.{refl, ◌∙◌}
use mathlib.Core.Logic.{inl, inr}
use Rattle.write.specs.WritesLaws.{writes}
use Rattle.table_lines.specs.RowLineLaws.{rowed_start, rowed_sum, rowed_more, rowed_done, left_below, left_first, left_more, left_none}
use Rattle.table_lines.proofs.row_lines.put_rows.Goals as goal

pub loop-i-init : goal.loop-i-init
loop-i-init c =
    let t = c.into_iter-i-iterator.ensures.into_iter_gives in record {
      same_buffer = refl;
      chances = record { within = c.requires.h_in_bounds_2.0; left = grind arith };
      left = record { within = c.requires.h_in_bounds_2.1; left = grind (arith, c.zip.ensures.second.0) };
      rows = rw (t, c.enumerate-i-items.ensures.count) (rowed_start (omega arith));
    }

pub overflow_add-cdf : goal.overflow_add-cdf
overflow_add-cdf c =
    let l = c.loop-i.invariant in
    let e = c.in-Some.ensures.steps.0.0 in
    omega (arith, left_first l.chances e, rowed_sum l.rows (left_below l.chances e))

pub loop-i-preserved : goal.loop-i-preserved
loop-i-preserved c =
    let l = c.loop-i.invariant in
    let s = c.in-Some.ensures.steps in
    let chance = left_first l.chances s.0.0 in
    let line = rw (chance, left_first l.left s.0.1, s.1) at c.put_row.ensures.wrote.wrote in
    record {
      same_buffer = c.put_row.ensures.wrote.same_buffer ∙ l.same_buffer;
      chances = rw s.2 (left_more l.chances s.0.0);
      left = rw s.2 (left_more l.left s.0.1);
      rows = rw (s.2, chance) (rowed_more l.rows (left_below l.chances s.0.0) line c.put_row.ensures.upper_bound);
    }

pub returns-clause-wrote : goal.returns-clause-wrote
returns-clause-wrote c =
    let l = c.loop-i.invariant in
    let done : c.args.h ≤ c.loop-i.i-iterator.count = elim c.in-None.ensures.steps.0 [ inl x ↦ left_none l.chances x.1.0 | inr x ↦ left_none l.left x.1.0 ] in
    writes l.same_buffer (rowed_done l.rows done)
