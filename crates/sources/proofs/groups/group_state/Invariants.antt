-- `groups::group_state` meets its contract: after z turns the groups of the first z zones stand.
use mathlib.Core.Path.{◌≡◌}
use Rattle.sources.specs.Grouping.{GroupingState}
use Rattle.sources.proofs.groups.group_state.Given as goal

abbrev pub invariant-loop-z : goal.invariant-loop-z
invariant-loop-z l = record {
  grouped : GroupingState l.moves l.n l.weights l.t l.z l.initial.lists.sources l.initial.lists.firsts l.initial.lists.shares l.first
      l.lists.sources l.lists.firsts l.lists.shares l.g;
  kept : l.lists.groups ≡ l.initial.lists.groups;
}
