-- `plot::exact_mean` meets its contract: two casts, a quotient and a sum, with nothing rounded off.
use Rattle.std.proofs.Common.{arith, lit≤, refl}
use lib.Ieee.{of_bits, binary64}
use Rattle.plot.specs.DoubleLaws.{joined}
use Rattle.plot.proofs.exact_mean.Goals as goal

pub returns : goal.returns
unfolding of_bits
returns c =
    let a = c.args in
    joined a.whole a.parts 36 (of_bits binary64 4769312005385355264) (refl, refl) (omega arith) (omega arith) (lit≤ tt)
