-- `state::move_of` meets its contract. The invariant: the rules passed are moved, from the last on; then by the mask, which is 0 or not.
use Rattle.window.specs.Settled.{MovedFrom}
use Rattle.window.proofs.state.move_of.Given as goal

abbrev pub invariant-loop-i : goal.invariant-loop-i
invariant-loop-i l = MovedFrom l.fn.list.rules l.fn.list.len l.state l.zone l.i l.mask l.next
