-- What exploring asks for and what it answers. Working definitions.
use Rattle.std.specs.Prelude.{ℕ, ◌+◌, ◌*◌, ◌/◌, ◌<◌, ◌≤◌, ◌≡◌, List, length, get_or, take}
use Rattle.rules.specs.declared.RuleList.{RuleList}
use Rattle.rules.specs.Bounds.{zone_count, max_rules, max_states}
use Rattle.rules.specs.Check.{active_rules}
use Rattle.rules.specs.InBounds.{AllInBounds}
use Rattle.window.specs.Settled.{CanBeGiven}
use Rattle.runlength.specs.Automaton.{Automaton}
use Rattle.states.specs.States.{worklist, next, states, moves}

-- accepted rules, and room for every state and move
pub record Explorable (list : RuleList) (found entries : List ℕ) : Type 0 where
  pub few_rules : list.len ≤ max_rules
  pub bounds : AllInBounds (active_rules list)
  pub found_room : length found ≡ max_states
  pub entries_room : length entries ≡ zone_count * max_states

-- the number of states, `max_states + 1` for too many; where there are not, the states and their moves stand in front
pub record Explored (a : Automaton ℕ) (found entries : List ℕ) (r : ℕ) : Type 0 where
  pub count : r ≡ length (states a)
  pub most : r ≤ max_states + 1
  pub found_states : r ≤ max_states → take r found ≡ states a
  pub found_moves : r ≤ max_states → take (a.zones * r) entries ≡ moves a
  pub found_length : length found ≡ max_states
  pub entries_length : length entries ≡ a.zones * max_states

-- what one turn needs: the move k is one of n states', and its state is one that can be given
pub record Visitable (list : RuleList) (found entries : List ℕ) (n k : ℕ) : Type 0 where
  pub can : Explorable list found entries
  pub few : n ≤ max_states
  pub below : k < zone_count * n
  pub given : CanBeGiven (active_rules list) (get_or found (k / zone_count) 0)

-- what one turn does: r states after it, with one entry more
pub record Visited (a : Automaton ℕ) (found entries found' entries' : List ℕ) (n k r : ℕ) : Type 0 where
  pub most : r ≤ max_states
  pub least : n ≤ r
  pub is : next a (worklist (take n found) (take k entries)) ≡ worklist (take r found') (take (k + 1) entries')

-- or there are too many after it
pub record Exceeds (a : Automaton ℕ) (found entries : List ℕ) (n k : ℕ) : Type 0 where
  pub count : length (next a (worklist (take n found) (take k entries))).found ≡ max_states + 1
