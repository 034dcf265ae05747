-- `put_row` meets its contract: a number, three fields, LF.
use Rattle.write.specs.WritesLaws.{and_then}
use Rattle.table_lines.specs.RowLine.{row_line}
use Rattle.write.specs.Field.{field}
use Rattle.table_lines.proofs.row_lines.put_row.Goals as goal

pub returns-clause-wrote : goal.returns-clause-wrote
unfolding row_line field
returns-clause-wrote c = search and_then
