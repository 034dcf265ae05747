-- `Writer::refused_by` meets its contract: two fields, LF.
use Rattle.write.specs.WritesLaws.{and_then}
use Rattle.write.specs.Refused.{refused_line}
use Rattle.write.proofs.writer.Writer.refused_by.Goals as goal

pub returns-clause-wrote : goal.returns-clause-wrote
unfolding refused_line
returns-clause-wrote c = and_then (and_then c.named.ensures c.field.ensures) c.byte.ensures
