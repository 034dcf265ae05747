-- `zone::band_of` meets its contract: each return has the tests that lead to it.
use borrow.Author.Tests.{le-leb, lt-leb}
use borrow.Author.Rules.{rules}
use Rattle.monitor.proofs.zone.band_of.Goals as goal

pub returns-then-distance-width : goal.returns-then-distance-width
returns-then-distance-width c = search (rules, le-leb, lt-leb)

pub overflow_mul-width : goal.overflow_mul-width
overflow_mul-width c = search (rules, le-leb, lt-leb)

pub returns-then-distance-width-2 : goal.returns-then-distance-width-2
returns-then-distance-width-2 c = search (rules, le-leb, lt-leb)

pub overflow_mul-width-2 : goal.overflow_mul-width-2
overflow_mul-width-2 c = search (rules, le-leb, lt-leb)

pub returns-then-distance-width-3 : goal.returns-then-distance-width-3
returns-then-distance-width-3 c = search (rules, le-leb, lt-leb)

pub returns : goal.returns
returns c = search (rules, le-leb, lt-leb)
