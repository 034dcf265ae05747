-- `zones::join` meets its contract: after z turns the weights of the first z zones are joined.
use Rattle.sources.specs.AlikeZones.{Joining}
use Rattle.sources.proofs.zones.join.Given as goal

abbrev pub invariant-loop-z : goal.invariant-loop-z
invariant-loop-z l = Joining l.moves l.n l.weights l.z l.joined
