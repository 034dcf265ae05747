-- `Round::next_leader` meets its contract: no state before j agrees with i.
use Rattle.std.proofs.Common.{length, arith}
use Rattle.merge.specs.AgreeLaws.{leader_found, leader_self}
use Rattle.merge.proofs.rounds.Round.next_leader.Goals as goal

pub returns-then-agree-clause-value : goal.returns-then-agree-clause-value
returns-then-agree-clause-value c =
    let r = c.args.self.now in
    leader_found (length r.leaders.now) r.moves.now r.leaders.now c.args.i c.loop-j.invariant c.if-agree.ensures

pub returns-clause-value : goal.returns-clause-value
returns-clause-value c =
    let r = c.args.self.now in
    leader_self (length r.leaders.now) r.moves.now r.leaders.now c.args.i c.loop-j.invariant (omega arith)
