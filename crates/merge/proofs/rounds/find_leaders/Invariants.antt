-- `rounds::find_leaders` meets its contract: after so many rounds the leaders are those by continuations of as many points.
use Rattle.std.proofs.Common.{take}
use Rattle.merge.specs.Rounds.{HoldsLeaders}
use Rattle.merge.proofs.rounds.find_leaders.Given as goal

abbrev pub invariant-loop : goal.invariant-loop
invariant-loop l = HoldsLeaders l.n l.moves (take l.n l.leaders) l.counter
