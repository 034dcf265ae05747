-- `parse_run` meets its contract. The invariant: the lines counted, and what is left to read.
use native.Mathlib.Omega.{arith}
use Rattle.text.specs.RunLaws.{run_start, run_most, run_ahead, run_more, run_done}
use Rattle.text.proofs.runs.parse_run.Goals as goal

pub loop-line-init : goal.loop-line-init
loop-line-init c = run_start _ _ _ _ _ _

pub returns : goal.returns
returns c =
    run_done c.loop-line.invariant c.parse_line.ensures c.in_default.is

pub one_more-below-requires : goal.one_more-below-requires
one_more-below-requires c =
    let u = run_most c.loop-line.invariant in
    (omega (arith, u), omega (arith, u))

pub loop-line-smaller : goal.loop-line-smaller
loop-line-smaller c =
    omega (arith, run_ahead c.loop-line.invariant c.parse_line.ensures c.in-Some.is)

pub loop-line-preserved : goal.loop-line-preserved
loop-line-preserved c =
    run_more c.loop-line.invariant c.parse_line.ensures c.in-Some.is c.one_more-below.ensures
