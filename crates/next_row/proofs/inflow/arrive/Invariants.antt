-- `inflow::arrive` meets its contract: after each turn what the groups to before g send is in the two words.
use lib.ListN.{get_or}
use Rattle.next_row.specs.Arrivals.{Arriving}
use Rattle.next_row.proofs.inflow.arrive.Given as goal

abbrev pub invariant-loop-g : goal.invariant-loop-g
invariant-loop-g l = Arriving l.units l.lists.sources.now l.lists.firsts.now l.lists.shares.now (get_or l.lists.groups.now l.t 0) l.g l.high l.low
