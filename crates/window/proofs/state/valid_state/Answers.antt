-- `state::valid_state` meets its contract. The invariant: what is left of the rules and windows decides as the whole does.
use Rattle.std.proofs.Common.{sym, ◌∙◌, arith}
use Rattle.window.specs.StateLaws.{valid_not, valid_on, valid_none, bounds_cons, bounds_item}
use Rattle.window.proofs.state.valid_state.Goals as goal

pub can_be_given-requires : goal.can_be_given-requires
can_be_given-requires c =
    let l = c.args.list in
    bounds_item l.rules l.len c.loop-rule.rule-index (omega arith) c.loop-rule.invariant.0

pub returns-then-not-can_be_given : goal.returns-then-not-can_be_given
returns-then-not-can_be_given c =
    let l = c.args.list in
    valid_not l.rules l.len c.loop-rule.rule-index (omega arith) c.args.count c.loop-rule.windows c.if-not-can_be_given.ensures
    ∙ sym c.loop-rule.invariant.1

pub loop-rule-preserved : goal.loop-rule-preserved
loop-rule-preserved c =
    let l = c.args.list in
    let p = c.loop-rule.invariant in (
      (bounds_cons l.rules l.len c.loop-rule.rule-index (omega arith) p.0).1,
      p.1 ∙ valid_on l.rules l.len c.loop-rule.rule-index (omega arith) c.args.count c.loop-rule.windows c.if-not-can_be_given.ensures,
    )

pub returns : goal.returns
returns c =
    let l = c.args.list in
    sym (c.loop-rule.invariant.1 ∙ valid_none l.rules l.len c.loop-rule.rule-index (omega arith) c.args.count c.loop-rule.windows)
