-- `flow::stretch` meets its contract: after each turn the first t states have their new units.
use mathlib.Core.Path.{◌≡◌}
use lib.ListN.{get_or}
use Rattle.next_row.specs.OneRow.{Filled}
use Rattle.next_row.proofs.flow.stretch.Given as goal

abbrev pub invariant-loop-t : goal.invariant-loop-t
invariant-loop-t l = record {
  group : l.g ≡ get_or l.lists.groups.now l.t 0;
  begin : l.first ≡ get_or l.lists.firsts.now l.g 0;
  filled : Filled l.units l.lists.sources.now l.lists.firsts.now l.lists.shares.now l.lists.groups.now l.t l.next l.moved.left l.moved.rest;
}
