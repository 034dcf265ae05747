-- `flow::make_row` meets its contract: after each turn the first t states have their new units.
use Prim.Native.Nat.{◌-◌, ◌≤◌}
use Rattle.next_row.specs.OneRow.{Filled}
use Rattle.next_row.proofs.flow.make_row.Given as goal

abbrev pub invariant-loop-t : goal.invariant-loop-t
invariant-loop-t l = record {
  most : l.t ≤ l.n;
  filled : Filled l.units l.lists.sources.now l.lists.firsts.now l.lists.shares.now l.lists.groups.now l.t l.next l.moved.left l.moved.rest;
}

abbrev pub decreases-loop-t : goal.decreases-loop-t
decreases-loop-t l = l.n - l.t
