-- `Classes::number` meets its contract: after each turn the first i states have their classes.
use Rattle.std.proofs.Common.{refl}
use Rattle.merge.specs.NumberingLaws.{numbered_none, number_can}
use Rattle.merge.proofs.classes.Classes.number.Goals as goal

pub loop-i-init : goal.loop-i-init
loop-i-init c = numbered_none _ _ refl

pub add-requires : goal.add-requires
add-requires c = number_can c.requires c.loop-i-test.true c.loop-i.invariant
