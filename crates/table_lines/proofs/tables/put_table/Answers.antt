-- `put_table` meets its contract: its parts, one behind the other.
use borrow.Author.Rules.{rules}
use Rattle.write.specs.WritesLaws.{and_then}
use Rattle.table_lines.specs.TableLines.{table_bytes}
use Rattle.table_lines.proofs.tables.put_table.Goals as goal

pub returns-clause-wrote : goal.returns-clause-wrote
unfolding table_bytes
returns-clause-wrote c =
    let rows = and_then (and_then c.put_standings.ensures.wrote c.put_header.ensures.wrote) c.put_rows.ensures.wrote in
    let lines = and_then (and_then rows c.put_arl.ensures.wrote) c.put_percents.ensures.wrote in search rules
