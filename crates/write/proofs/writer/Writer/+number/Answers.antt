-- `Writer::number` meets its contract: the digits of a tenth, and the last digit.
use Rattle.decimal.specs.DecimalLaws.{decimal_one, decimal_more}
use Rattle.write.specs.WritesLaws.{and_then}
use Rattle.write.proofs.writer.Writer.+number.Goals as goal

pub returns-then-n-lt10 : goal.returns-then-n-lt10
returns-then-n-lt10 t c = rw (decimal_one c.args.n c.if-n-lt10.true, ← c.digit.ensures) c.byte.ensures

pub returns : goal.returns
returns t c = rw (decimal_more c.args.n c.if-n-lt10.false, ← c.digit-2.ensures) (and_then c.number.ensures c.byte-2.ensures)
