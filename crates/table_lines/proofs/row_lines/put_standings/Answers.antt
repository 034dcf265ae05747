-- `put_standings` meets its contract: the field, LF.
use Rattle.write.specs.WritesLaws.{and_then}
use Rattle.table_lines.specs.RowLine.{standings_line}
use Rattle.table_lines.proofs.row_lines.put_standings.Goals as goal

pub returns-clause-wrote : goal.returns-clause-wrote
unfolding standings_line
returns-clause-wrote c = search and_then
