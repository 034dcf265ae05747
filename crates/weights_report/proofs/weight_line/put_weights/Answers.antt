-- `put_weights` meets its contract: the word, the fields of the weights, LF.
use borrow.Author.Rules.{rules}
use Rattle.write.specs.WritesLaws.{and_then}
use Rattle.weights_report.specs.WeightLine.{weight_line}
use Rattle.weights_report.proofs.weight_line.put_weights.Goals as goal

pub returns-clause-wrote : goal.returns-clause-wrote
unfolding weight_line
returns-clause-wrote c =
    let line = rw c.into-weights.ensures at (and_then (and_then c.bytes.ensures c.put_fields.ensures.wrote) c.byte.ensures) in search rules
