-- `sum_fits` meets its contract: a chance over what is left, and none.
use Rattle.std.proofs.Common.{arith, sym}
use Rattle.bracket.specs.TotalLaws.{total_over}
use Rattle.bracket.proofs.sum_fits.Goals as goal

pub returns-then-chance-rest : goal.returns-then-chance-rest
returns-then-chance-rest c =
    sym (total_over c.args.pmf.now c.loop-chance.rest c.loop-chance.chance-index c.loop-chance.invariant (omega arith) (omega arith))
