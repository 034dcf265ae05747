-- `plot::quartile_spread` meets its contract: the difference of two points in order.
use Rattle.std.proofs.Common.{◌≤◌, Some, ap, arith}
use Rattle.plot.specs.DoubleLaws.{apart}
use Rattle.plot.proofs.quartile_spread.Goals as goal

pub returns : goal.returns
returns c =
    let h : c.in-At.from ≤ c.in-At-q75.to = rw (c.in-At.is, c.in-At-q75.is) at c.requires in
    rw (c.in-At.is, c.in-At-q75.is, c.from.ensures, c.from-2.ensures) (ap Some (apart c.in-At-q75.to c.in-At.from h (omega arith)).nearest)
