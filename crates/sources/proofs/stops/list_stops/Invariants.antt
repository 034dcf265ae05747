-- `stops::list_stops` meets its contract: after each turn the stretches from t on have their stops.
use Rattle.sources.specs.Stops.{Stops}
use Rattle.sources.proofs.stops.list_stops.Given as goal

abbrev pub invariant-loop-t : goal.invariant-loop-t
invariant-loop-t l = Stops l.groups l.n l.t l.stops
