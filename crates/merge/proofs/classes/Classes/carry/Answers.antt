-- `Classes::carry` meets its contract: after each turn the first k moves are carried over.
use Rattle.std.proofs.Common.{arith, ◌∙◌}
use Rattle.runlength.specs.TabLaws.{front_none, front_more}
use Rattle.merge.specs.Numbering.{carried}
use Rattle.merge.specs.NumberingLaws.{label_taken}
use Rattle.merge.proofs.classes.Classes.carry.Goals as goal

pub loop-k-init : goal.loop-k-init
loop-k-init c = front_none _ _

pub loop-k-preserved : goal.loop-k-preserved
loop-k-preserved c =
    let a = c.args in
    front_more c.loop-k.k (carried a.n a.moves.now a.self.now) a.merged.now c.loop-k.merged c.label_of.result (omega arith)
    c.loop-k.invariant (c.label_of.ensures ∙ label_taken a.n a.self.now.of_states (omega arith) _ ∙ rw c.from-first.ensures)
