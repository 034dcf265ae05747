-- TO BELIEVE: the chain that the table runs on, behind one name: its merged states and N, its automaton, its weights. Definitions.
use Rattle.std.specs.Prelude.{ℕ, List, length}
use Rattle.rules.specs.declared.Rule.{Rule}
use Rattle.rules.specs.Bounds.{zone_count}
use Rattle.runlength.specs.Scale.{weight_total, units_per_one}
use Rattle.runlength.specs.Sum.{at}
use Rattle.runlength.specs.Automaton.{Automaton}
use Rattle.runlength.specs.Chain.{Chain}
use Rattle.runlength.specs.Listed.{listed_automaton}
use Rattle.states.specs.States.{states, moves}
use Rattle.states.specs.Automata.{state_automaton}
use Rattle.merge.specs.Merge.{merged_count, merged_moves}

module _ (rs : List Rule) where
  -- what refusal 10 looks at: how many states are explored; `max_states + 1` stands for too many
  unfoldable pub explored_count : ℕ
  explored_count = length (states (state_automaton rs))

  -- N: how many of them differ, two being one where every continuation first signals at the same point from both
  unfoldable pub state_count : ℕ
  state_count = merged_count explored_count (moves (state_automaton rs))

  -- the moves of the chain's states, those that differ: state s by zone z at zone_count * s + z, a number of N or more being a signal
  unfoldable pub chain_moves : List ℕ
  chain_moves = merged_moves explored_count (moves (state_automaton rs))

  -- the automaton that the table runs on: its states are the numbers below N
  unfoldable pub table_automaton : Automaton ℕ
  table_automaton = listed_automaton zone_count state_count chain_moves

  -- with document 01's scales and these weights
  abbrev pub table_chain : List ℕ → Chain
  table_chain weights = record {
    automaton = table_automaton;
    size = state_count;
    weight = at weights;
    base = weight_total;
    whole = units_per_one;
  }
