-- The rules that are left make of the list what all of them make of none.
use Rattle.std.proofs.Common.{◌≡◌, drop}
use Rattle.show.specs.Lists.{no_rules, with_rules}
use Rattle.show.proofs.lists.list_of.Given as goal

abbrev pub invariant-loop-rule : goal.invariant-loop-rule
invariant-loop-rule l = with_rules l.list (drop l.rule-index l.rules) ≡ with_rules no_rules l.rules
