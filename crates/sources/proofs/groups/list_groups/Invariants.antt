-- `groups::list_groups` meets its contract: after t turns the groups of the first t states stand.
use lib.ListN.{length, get_or}
use mathlib.Core.Path.{◌≡◌}
use Rattle.sources.specs.Grouping.{Listing}
use Rattle.sources.proofs.groups.list_groups.Given as goal

abbrev pub invariant-loop-t : goal.invariant-loop-t
invariant-loop-t l = record {
  same_sources : length l.lists.sources ≡ length l.initial.lists.sources;
  same_firsts : length l.lists.firsts ≡ length l.initial.lists.firsts;
  same_shares : length l.lists.shares ≡ length l.initial.lists.shares;
  same_groups : length l.lists.groups ≡ length l.initial.lists.groups;
  next : l.g ≡ get_or l.lists.groups l.t 0;
  listing : Listing l.moves l.n l.weights l.lists.sources l.lists.firsts l.lists.shares l.lists.groups l.t;
}
