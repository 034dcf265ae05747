-- `state::valid_state` meets its contract. The invariant: what is left of the rules and windows decides as the whole does.
use Rattle.std.proofs.Common.{◌≡◌, ◌-◌}
use Rattle.rules.specs.Check.{rules_from, active_rules}
use Rattle.rules.specs.InBounds.{AllInBounds}
use Rattle.window.specs.State.{valid_state}
use Rattle.window.proofs.state.valid_state.Given as goal

abbrev pub invariant-loop-rule : goal.invariant-loop-rule
invariant-loop-rule l =
    let left = rules_from (l.fn.list.len - l.rule-index) l.rule-index l.fn.list.rules in
    AllInBounds left × (valid_state l.count (active_rules l.fn.list) l.state ≡ valid_state l.count left l.windows)
