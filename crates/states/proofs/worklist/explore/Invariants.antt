-- `explore` meets its contract: after k turns the two lists hold the worklist as it is after k turns.
use Prim.Native.Nat.{◌*◌, ◌-◌}
use Rattle.rules.specs.Bounds.{zone_count, max_states}
use Rattle.rules.specs.Check.{active_rules}
use Rattle.states.specs.Automata.{state_automaton}
use Rattle.states.specs.ExploreLaws.{Exploring}
use Rattle.states.proofs.worklist.explore.Given as goal

abbrev pub invariant-loop-k : goal.invariant-loop-k
invariant-loop-k l = Exploring (state_automaton (active_rules l.list)) l.found l.moves l.n l.k

abbrev pub decreases-loop-k : goal.decreases-loop-k
decreases-loop-k l = zone_count * max_states - l.k
