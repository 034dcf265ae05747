-- `Writer::named` meets its contract: the word, then the field.
use Rattle.write.specs.WritesLaws.{and_then}
use Rattle.write.proofs.writer.Writer.named.Goals as goal

pub returns : goal.returns
returns c = search and_then
