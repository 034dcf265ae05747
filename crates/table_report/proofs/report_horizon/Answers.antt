-- `table_report::report_horizon` meets its contract: each return has the test that leads to it.
use borrow.Author.Rules.{rules}
use borrow.Author.Tests.{le-leb, lt-leb}
use Rattle.table_report.proofs.report_horizon.Goals as goal

pub returns-then-h-le-MAX_ROWS : goal.returns-then-h-le-MAX_ROWS
returns-then-h-le-MAX_ROWS c = search (rules, le-leb, lt-leb)

pub returns-else-h-le-MAX_ROWS : goal.returns-else-h-le-MAX_ROWS
returns-else-h-le-MAX_ROWS c = search (rules, le-leb, lt-leb)
