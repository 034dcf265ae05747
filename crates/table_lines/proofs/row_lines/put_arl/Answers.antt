-- `put_arl` meets its contract: three fields, LF.
use Rattle.write.specs.WritesLaws.{and_then}
use Rattle.table_lines.specs.RowLine.{arl_line}
use Rattle.table_lines.proofs.row_lines.put_arl.Goals as goal

pub returns-clause-wrote : goal.returns-clause-wrote
unfolding arl_line
returns-clause-wrote c = search and_then
