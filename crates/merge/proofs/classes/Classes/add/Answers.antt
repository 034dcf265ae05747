-- `Classes::add` meets its contract: a class of its own, or its leader's.
use Rattle.std.proofs.Common.{sym, ◌∙◌, arith}
use Rattle.merge.specs.NumberingLaws.{number_first, number_other}
use Rattle.merge.proofs.classes.Classes.add.Goals as goal

pub returns-then-leader-i : goal.returns-then-leader-i
returns-then-leader-i c =
    number_first c.requires (omega arith) (omega arith) (sym c.from-leader.ensures ∙ c.if-leader-i.true)

pub returns-else-leader-i : goal.returns-else-leader-i
returns-else-leader-i c =
    number_other c.requires (omega arith) (omega arith) c.from-leader.result c.from-leader.ensures c.if-leader-i.false
