-- `Writer::byte` meets its contract.
use mathlib.Core.Path.{refl}
use native.Mathlib.Omega.{arith}
use Rattle.write.specs.WroteLaws.{wrote_byte}
use Rattle.write.specs.WritesLaws.{writes}
use Rattle.write.proofs.writer.Writer.byte.Goals as goal

pub returns : goal.returns
returns c = writes refl (wrote_byte _ _ _ (omega arith))
