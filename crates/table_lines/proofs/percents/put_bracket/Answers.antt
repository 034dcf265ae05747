-- `put_bracket` meets its contract: the fields of each case.
use Rattle.write.specs.WritesLaws.{and_then}
use Rattle.table_lines.specs.PercentLine.{bracket_fields}
use Rattle.table_lines.proofs.percents.put_bracket.Goals as goal

pub returns-in-At-clause-wrote : goal.returns-in-At-clause-wrote
unfolding bracket_fields
returns-in-At-clause-wrote c = rw c.in-At.is c.named.ensures

pub returns-in-Between-clause-wrote : goal.returns-in-Between-clause-wrote
unfolding bracket_fields
returns-in-Between-clause-wrote c = rw c.in-Between.is (and_then c.named-in-Between.ensures c.field.ensures)

pub returns-in-Open-clause-wrote : goal.returns-in-Open-clause-wrote
unfolding bracket_fields
returns-in-Open-clause-wrote c = rw c.in-Open.is c.named-in-Open.ensures

pub returns-in-Beyond-clause-wrote : goal.returns-in-Beyond-clause-wrote
unfolding bracket_fields
returns-in-Beyond-clause-wrote c = rw c.in-Beyond.is c.named-in-Beyond.ensures
