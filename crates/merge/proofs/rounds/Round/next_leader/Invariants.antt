-- `Round::next_leader` meets its contract: no state before j agrees with i.
use Rattle.std.proofs.Common.{length}
use Rattle.merge.specs.AgreeLaws.{NoneBefore}
use Rattle.merge.proofs.rounds.Round.next_leader.Given as goal

abbrev pub invariant-loop-j : goal.invariant-loop-j
invariant-loop-j l = NoneBefore (length l.self.leaders.now) l.self.moves.now l.self.leaders.now l.i l.j
