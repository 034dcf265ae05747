-- `Writer::field` meets its contract: a comma, then the number.
use Rattle.write.specs.Field.{field}
use Rattle.write.specs.WritesLaws.{and_then}
use Rattle.write.proofs.writer.Writer.field.Goals as goal

pub returns : goal.returns
unfolding field
returns c = search and_then
