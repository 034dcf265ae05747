-- `Classes::number` meets its contract: after each turn the first i states have their classes.
use Rattle.merge.specs.Numbering.{Numbered}
use Rattle.merge.proofs.classes.Classes.number.Given as goal

abbrev pub invariant-loop-i : goal.invariant-loop-i
invariant-loop-i l = Numbered l.leaders l.classes l.i
