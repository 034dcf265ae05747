-- `put_rows` meets its contract. The invariant: the rows so far are written, `cdf` is the sum of their chances, and the other numbers are left.
use Rattle.std.proofs.Common.{◌≡◌}
use Rattle.table_lines.specs.RowsWritten.{RowsWritten, LeftOf}
use Rattle.table_lines.proofs.row_lines.put_rows.Given as goal

abbrev pub invariant-loop-i : goal.invariant-loop-i
invariant-loop-i l = record {
  same_buffer : l.w.out.ghost_name ≡ l.initial.w.out.ghost_name;
  chances : LeftOf l.pmf l.h l.i-iterator.count l.i-iterator.iter.a.rest.now;
  left : LeftOf l.survival l.h l.i-iterator.count l.i-iterator.iter.b.rest.now;
  rows : RowsWritten l.initial.w.out.now l.initial.w.at l.h l.pmf l.survival l.w.out.now l.w.at l.cdf l.i-iterator.count;
}
