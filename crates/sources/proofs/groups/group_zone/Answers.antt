-- `groups::group_zone` meets its contract: a zone of no weight or with no source makes no group.
use native.Mathlib.Omega.{arith}
use Rattle.sources.specs.GroupingLaws.{zone_unmarked, zone_size, zone_more}
use Rattle.sources.proofs.groups.group_zone.Goals as goal

pub returns-then-marks-from-eq0-clause-grouped : goal.returns-then-marks-from-eq0-clause-grouped
returns-then-marks-from-eq0-clause-grouped c = search zone_unmarked

pub overflow_cast-lists : goal.overflow_cast-lists
overflow_cast-lists c = omega (arith, zone_size c.requires c.from-2.ensures c.collect-end.ensures)

pub returns-clause-grouped : goal.returns-clause-grouped
returns-clause-grouped c = search zone_more
