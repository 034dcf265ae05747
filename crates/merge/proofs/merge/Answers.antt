-- `merge` meets its contract: leaders by rounds, classes by leaders, moves by classes.
use Rattle.std.proofs.Common.{arith}
use Rattle.std.proofs.Math.Seq.{length-take-le}
use Rattle.merge.specs.NumberingLaws.{number_of, carry_can, numbered_count, carried_moves}
use Rattle.merge.proofs.merge.Goals as goal

pub number-classes-requires : goal.number-classes-requires
number-classes-requires c =
    let leaders = c.find_leaders-leaders in
    number_of leaders.ensures c.requires.few (length-take-le c.args.n leaders.result (omega (arith, c.requires.few)))

pub carry-requires : goal.carry-requires
carry-requires c =
    let leaders = c.find_leaders-leaders in
    let long = length-take-le c.args.n leaders.result (omega (arith, c.requires.few)) in
    carry_can leaders.ensures long c.number-classes.ensures _ c.requires

pub returns-clause-value : goal.returns-clause-value
returns-clause-value c =
    let leaders = c.find_leaders-leaders in
    let long = length-take-le c.args.n leaders.result (omega (arith, c.requires.few)) in
    numbered_count leaders.ensures long c.number-classes.ensures

pub returns-clause-merged_after : goal.returns-clause-merged_after
returns-clause-merged_after c =
    let leaders = c.find_leaders-leaders in
    let long = length-take-le c.args.n leaders.result (omega (arith, c.requires.few)) in
    carried_moves leaders.ensures long c.number-classes.ensures _ _ c.carry.ensures
