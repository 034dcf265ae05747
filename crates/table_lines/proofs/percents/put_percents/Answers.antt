-- `put_percents` meets its contract: five lines, one behind the other.
use Rattle.write.specs.WritesLaws.{and_then}
use Rattle.table_lines.specs.PercentLine.{percent_lines}
use Rattle.table_lines.proofs.percents.put_percents.Goals as goal

pub returns-clause-wrote : goal.returns-clause-wrote
unfolding percent_lines
returns-clause-wrote c = search and_then
