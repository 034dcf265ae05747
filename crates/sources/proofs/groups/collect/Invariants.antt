-- `groups::collect` meets its contract: after s turns the first s states are looked at.
use Rattle.sources.specs.Grouping.{Collected}
use Rattle.sources.proofs.groups.collect.Given as goal

abbrev pub invariant-loop-s : goal.invariant-loop-s
invariant-loop-s l = Collected l.moves l.n l.z l.t l.s l.initial.sources l.first l.sources l.e
