-- `batch_code` meets its contract.
use Rattle.std.proofs.Common.{arith}
use Rattle.call_arrays.specs.BatchCodeLaws.{taken_code, unrefused_code, refused_code}
use Rattle.call_arrays.proofs.batches.batch_code.Goals as goal

pub returns-then-found-gt0 : goal.returns-then-found-gt0
returns-then-found-gt0 g c = taken_code g.R.Reason.number g.R.Reason.place c.args.found (λ z. omega (arith, c.if-found-gt0.true))

pub returns-in-None : goal.returns-in-None
returns-in-None g c = unrefused_code g.R.Reason.number g.R.Reason.place c.args.found (omega (arith, c.if-found-gt0.false)) c.in-None.is

pub returns-in-Some : goal.returns-in-Some
returns-in-Some g c = refused_code g.R.Reason.number g.R.Reason.place c.args.found (omega (arith, c.if-found-gt0.false)) c.in-Some.is c.code.ensures
