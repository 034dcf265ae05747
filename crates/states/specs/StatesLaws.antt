-- Laws of the states found and of their moves: each state met stands there once, and the chain of the moves has the chart's future.
use Rattle.std.specs.Prelude.{ℕ, ◌+◌, ◌*◌, ◌<◌, ◌≤◌, ◌≡◌, refl, length, get_or}
use Rattle.std.proofs.Common.{subst, arith, lt-ltb, le-ltb}
use Rattle.rules.specs.Bounds.{max_states}
use Rattle.runlength.specs.Automaton.{Automaton, Move, quiet, signal}
use Rattle.runlength.specs.Listed.{entry_move, listed_automaton}
use Rattle.runlength.specs.Future.{Alike, EqualFuture, Simulation}
use Rattle.runlength.proofs.FutureLaws.{simulation_future}
use Rattle.states.specs.States.{Met, start, more, explored, states, moves}
use Rattle.runlength.specs.Index.{Distinct, At}
use Rattle.states.specs.StateList.{Entry, AllMet, HasAllMet, Right}
use Rattle.runlength.specs.IndexLaws.{flat_state, flat_zone, flat_below}
use Rattle.states.specs.WorklistLaws.{Sound, turns_sound, explored_full}

module _ (a : Automaton ℕ) where
  explored_sound : Sound a (explored a)
  unfolding explored
  explored_sound = turns_sound a (a.zones * max_states)

  -- there is a state, the start's, and at most one too many
  pub states_some : 0 < length (states a)
  unfolding states
  states_some = explored_sound.some

  pub states_first : get_or (states a) 0 0 ≡ a.start
  unfolding states
  states_first = explored_sound.first

  pub states_most : length (states a) ≤ max_states + 1
  unfolding states
  states_most = explored_sound.most

  -- no repeats
  pub states_distinct : Distinct (states a)
  unfolding states
  states_distinct = explored_sound.distinct

  -- every one is met
  pub states_met : AllMet a (states a)
  unfolding states
  states_met = explored_sound.all_met

  -- each entry is that of its move
  moves_right : Right a (states a) (moves a)
  unfolding states moves
  moves_right = explored_sound.right

  module _ (few : length (states a) ≤ max_states) where
    -- each state has all its moves
    moves_length : length (moves a) ≡ a.zones * length (states a)
    unfolding states moves
    moves_length = explored_full a few

    -- the entry of the state at i by zone z stands at zones * i + z
    pub move_entry : (i s z : ℕ) → At (states a) i s → z < a.zones → Entry (states a) (get_or (moves a) (a.zones * i + z) 0) (a.move s z)
    move_entry i s z p h =
        let l : a.zones * i + z < length (moves a) = rw moves_length (flat_below a.zones i z (length (states a)) h p.below) in
        rw (flat_state a.zones i z h, flat_zone a.zones i z h, p.is) at (moves_right.right (a.zones * i + z) l)

    state_index : (s : ℕ) → Met a s → (i : ℕ) × At (states a) i s
    state_index s start = (0, record { below = states_some; is = states_first })
    state_index s (more {s = r} z p h e) =
        let o = state_index r p in
        let x = get_or (moves a) (a.zones * o.0 + z) 0 in
        (x, subst (Entry (states a) x) e (move_entry o.0 r z o.1 h))

    -- every state that is met is among them
    pub states_all : HasAllMet a (states a)
    states_all = record { index = state_index }

    -- ---- the chain of the moves

    abbrev chain : Automaton ℕ
    chain = listed_automaton a.zones (length (states a)) (moves a)

    entry_alike : (x : ℕ) (m : Move ℕ) → Entry (states a) x m → Alike (At (states a)) (entry_move (length (states a)) x) m
    unfolding Alike
    entry_alike x signal p = rw (le-ltb x (length (states a)) (omega arith)) tt
    entry_alike x (quiet t) p = rw (lt-ltb x (length (states a)) p.below) p

    -- an index moves as the state that stands there
    pub explored_simulation : Simulation (listed_automaton a.zones (length (states a)) (moves a)) a (At (states a))
    explored_simulation = record {
      same_zones = refl;
      kept = λ i s p z h. entry_alike (get_or (moves a) (a.zones * i + z) 0) (a.move s z) (move_entry i s z p h);
    }

    -- the chain of the moves first signals where the chart does
    pub explored_future : EqualFuture (listed_automaton a.zones (length (states a)) (moves a)) a 0 a.start
    explored_future = simulation_future chain a (At (states a)) explored_simulation (record { below = states_some; is = states_first })
