-- `put_fields` meets its contract. Its invariant: the fields of the numbers so far are written.
use mathlib.Core.Path.{refl, ◌∙◌}
use native.Mathlib.Omega.{arith}
use Rattle.write.specs.WritesLaws.{writes}
use Rattle.weights_report.specs.FieldsWrittenLaws.{fielded_start, fielded_more, fielded_done}
use Rattle.weights_report.proofs.weight_line.put_fields.Goals as goal

pub loop-n-init : goal.loop-n-init
loop-n-init c = record { same_buffer = refl; fields = fielded_start (omega arith) }

pub loop-n-preserved : goal.loop-n-preserved
loop-n-preserved c =
    let l = c.loop-n.invariant in record {
      same_buffer = c.field.ensures.same_buffer ∙ l.same_buffer;
      fields = fielded_more l.fields c.loop-n-test.true (c.type_inv.numbers c.loop-n.n-index) c.field.ensures.wrote;
    }

pub returns-clause-wrote : goal.returns-clause-wrote
returns-clause-wrote c =
    let l = c.loop-n.invariant in writes l.same_buffer (fielded_done l.fields c.loop-n-test.false)
