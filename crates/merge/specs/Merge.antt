-- TO BELIEVE: the moves of n states, merged: those of the classes of states with equal futures. Definitions.
use Rattle.std.specs.Prelude.{ℕ, ◌*◌, ◌/◌, ◌%◌, ◌≤◌, List, length}
use Rattle.rules.specs.Bounds.{zone_count, max_states}
use Rattle.runlength.specs.Sum.{tab}
use Rattle.runlength.specs.Automaton.{Automaton, Move, quiet, signal}
use Rattle.runlength.specs.Listed.{listed_automaton}
use Rattle.runlength.specs.Merged.{class_count, merged_move}

-- a move as an entry of a list: the next state, or `max_states` for a signal
abbrev pub entry_of : Move ℕ → ℕ
entry_of (quiet t) = t
entry_of signal = max_states

module _ (n : ℕ) (m : List ℕ) where
  -- the chart of the n states that the list of moves gives
  abbrev pub given_automaton : Automaton ℕ
  given_automaton = listed_automaton zone_count n m

  -- how many of them differ
  unfoldable pub merged_count : ℕ
  merged_count = class_count given_automaton n

  -- the moves of the classes: class c by zone z at zone_count * c + z
  unfoldable pub merged_moves : List ℕ
  merged_moves = tab (zone_count * merged_count) (λ k. entry_of (merged_move given_automaton n (k / zone_count) (k % zone_count)))

-- what merging asks for: not too many states, their moves, and room for as many
pub record Mergeable (n : ℕ) (m merged : List ℕ) : Type 0 where
  pub few : n ≤ max_states
  pub moves : zone_count * n ≤ length m
  pub room : zone_count * n ≤ length merged
