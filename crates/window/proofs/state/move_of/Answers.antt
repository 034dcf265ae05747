-- `state::move_of` meets its contract. The invariant: the rules passed are moved, from the last on; then by the mask, which is 0 or not.
use Rattle.std.proofs.Common.{ap, sym, ◌-◌, ◌∙◌, arith}
use Rattle.rules.specs.Check.{active_rules}
use Rattle.window.specs.StateLaws.{bounds_cons, bounds_from, moved_none, moved_within, moved_more, moved_all}
use Rattle.window.specs.MoveLaws.{move_quiet, move_signal}
use Rattle.window.specs.declared.Move.TheVariants.{Quiet, Signal}
use Rattle.window.specs.SettledLaws.{settled_at}
use Rattle.window.proofs.state.move_of.Goals as goal

pub loop-i-init : goal.loop-i-init
loop-i-init c = let a = c.args in moved_none a.list.rules a.list.len a.state a.zone

pub settled_move-moved-requires : goal.settled_move-moved-requires
settled_move-moved-requires c =
    let a = c.args in
    let l = a.list in
    let given = c.requires.given in
    let i = c.loop-i.i - 1 in
    let bounds = bounds_from l.rules l.len i (omega arith) c.requires.len_le_max_rules.1 in
    let settled = settled_at l.rules l.len given.count a.state i (omega arith) given.valid in
    ((bounds_cons l.rules l.len i (omega arith) bounds).0, omega arith, rw c.window_at.ensures settled)

pub overflow_mul-mask : goal.overflow_mul-mask
overflow_mul-mask c =
    let p = c.requires.len_le_max_rules in
    let fits = moved_within (moved_more c.loop-i.invariant (omega arith) c.window_at.ensures c.from.ensures c.settled_move-moved.ensures) p.0 p.1 in
    omega arith

pub overflow_add-mask : goal.overflow_add-mask
overflow_add-mask c =
    let p = c.requires.len_le_max_rules in
    let fits = moved_within (moved_more c.loop-i.invariant (omega arith) c.window_at.ensures c.from.ensures c.settled_move-moved.ensures) p.0 p.1 in
    omega arith

pub overflow_mul-next : goal.overflow_mul-next
overflow_mul-next c =
    let p = c.requires.len_le_max_rules in
    let fits = moved_within (moved_more c.loop-i.invariant (omega arith) c.window_at.ensures c.from.ensures c.settled_move-moved.ensures) p.0 p.1 in
    omega arith

pub overflow_add-next : goal.overflow_add-next
overflow_add-next c =
    let p = c.requires.len_le_max_rules in
    let fits = moved_within (moved_more c.loop-i.invariant (omega arith) c.window_at.ensures c.from.ensures c.settled_move-moved.ensures) p.0 p.1 in
    omega arith

pub loop-i-preserved : goal.loop-i-preserved
loop-i-preserved c = moved_more c.loop-i.invariant (omega arith) c.window_at.ensures c.from.ensures c.settled_move-moved.ensures

pub returns-then-mask-eq0 : goal.returns-then-mask-eq0
returns-then-mask-eq0 c =
    let a = c.args in
    let all = moved_all c.loop-i.invariant (omega arith) in
    ap Quiet all.1 ∙ sym (move_quiet (active_rules a.list) a.state a.zone (omega (arith, all.0)))

pub returns : goal.returns
returns c =
    let a = c.args in
    let all = moved_all c.loop-i.invariant (omega arith) in
    ap Signal all.0 ∙ sym (move_signal (active_rules a.list) a.state a.zone (λ z. omega (arith, all.0)))
