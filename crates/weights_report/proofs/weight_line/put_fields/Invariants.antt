-- `put_fields` meets its contract. Its invariant: the fields of the numbers so far are written.
use mathlib.Core.Path.{◌≡◌}
use Rattle.weights_report.specs.FieldsWrittenLaws.{FieldsWritten}
use Rattle.weights_report.proofs.weight_line.put_fields.Given as goal

abbrev pub invariant-loop-n : goal.invariant-loop-n
invariant-loop-n l = record {
  same_buffer : l.w.out.ghost_name ≡ l.initial.w.out.ghost_name;
  fields : FieldsWritten l.initial.w.out.now l.initial.w.at l.numbers l.w.out.now l.w.at l.n-index;
}
