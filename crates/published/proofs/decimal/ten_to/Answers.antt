-- A power of 10 is no less than 1.
use Rattle.std.proofs.Common.{rules}
use Rattle.std.proofs.Math.Nat.{one-le-pow}
use Rattle.published.proofs.decimal.ten_to.Goals as goal

pub returns-clause-positive : goal.returns-clause-positive
returns-clause-positive c = search (rules, one-le-pow)
