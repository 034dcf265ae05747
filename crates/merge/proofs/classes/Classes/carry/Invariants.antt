-- `Classes::carry` meets its contract: after each turn the first k moves are carried over.
use Rattle.std.proofs.Common.{◌≡◌}
use Rattle.runlength.specs.Sum.{front}
use Rattle.merge.specs.Numbering.{carried}
use Rattle.merge.proofs.classes.Classes.carry.Given as goal

abbrev pub invariant-loop-k : goal.invariant-loop-k
invariant-loop-k l = l.merged ≡ front l.k (carried l.n l.moves l.self) l.initial.merged
