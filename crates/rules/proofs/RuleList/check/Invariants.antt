-- `RuleList::check` meets its contract. The invariant: what is left of the list decides as the whole does.
use Rattle.std.proofs.Common.{◌≡◌, ◌-◌}
use Rattle.rules.specs.Check.{check_rules, rules_from}
use Rattle.rules.proofs.RuleList.check.Given as goal

abbrev pub invariant-loop-i : goal.invariant-loop-i
invariant-loop-i l =
    check_rules 0 (rules_from l.self.len 0 l.self.rules) ≡ check_rules l.i (rules_from (l.self.len - l.i) l.i l.self.rules)
