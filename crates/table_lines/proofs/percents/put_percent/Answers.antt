-- `put_percent` meets its contract: the percent, the bracket, LF.
use Rattle.write.specs.WritesLaws.{and_then}
use Rattle.table_lines.specs.PercentLine.{percent_line}
use Rattle.table_lines.proofs.percents.put_percent.Goals as goal

pub returns-clause-wrote : goal.returns-clause-wrote
unfolding percent_line
returns-clause-wrote c = search and_then
