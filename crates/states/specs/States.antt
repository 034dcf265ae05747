-- TO BELIEVE: the states met from the start with no signal, in the order in which a worklist finds them, and their moves. Definitions.
use Rattle.std.specs.Prelude.{ℕ, zero, suc, ◌*◌, ◌/◌, ◌%◌, ◌<◌, ◌≡◌, Bool, cond, ◌&&◌, List, [], ◌∷◌, ◌++◌, ltb, leb, length, get_or}
use Rattle.rules.specs.Bounds.{max_states}
use Rattle.runlength.specs.Automaton.{Automaton, Move, quiet, signal}
use Rattle.runlength.specs.Index.{index_of}

-- a state that some zones lead to with no signal
pub data Met {A : Type 0} (a : Automaton A) : A → Type 0 where
  start : Met a a.start
  more : {s t : A} (z : ℕ) → Met a s → z < a.zones → a.move s z ≡ quiet t → Met a t

-- t at the end, unless it is there already
unfoldable pub with_state : ℕ → List ℕ → List ℕ
with_state t xs = cond (ltb (index_of t xs) (length xs)) xs (xs ++ t ∷ [])

-- The states found so far, and an entry for each move looked at so far: the index of the next state, or `max_states` for a signal.
-- The entry of state i by zone z stands at zones * i + z.
pub record Worklist : Type 0 where
  pub found : List ℕ
  pub entries : List ℕ

abbrev pub worklist : List ℕ → List ℕ → Worklist
worklist f m = record { found = f; entries = m }

-- one move more is looked at
unfoldable pub enter : Worklist → Move ℕ → Worklist
enter w signal = worklist w.found (w.entries ++ max_states ∷ [])
enter w (quiet t) = worklist (with_state t w.found) (w.entries ++ index_of t w.found ∷ [])

module _ (a : Automaton ℕ) where
  -- a move is left to look at, and there are not too many states
  unfoldable pub busy : Worklist → Bool
  busy w = ltb (length w.entries) (a.zones * length w.found) && leb (length w.found) max_states

  -- the move that is due after k moves: of state k / zones by zone k % zones
  unfoldable pub due : Worklist → Move ℕ
  due w = a.move (get_or w.found (length w.entries / a.zones) 0) (length w.entries % a.zones)

  -- one turn: the move that is due is looked at, if there is one
  unfoldable pub next : Worklist → Worklist
  next w = cond (busy w) (enter w (due w)) w

  -- the worklist after k turns
  unfoldable pub turns : ℕ → Worklist
  turns zero = worklist (a.start ∷ []) []
  turns (suc k) = next (turns k)

  -- as many turns as `max_states` states have moves
  unfoldable pub explored : Worklist
  explored = turns (a.zones * max_states)

  -- the states in the order found; `max_states + 1` of them stand for too many
  unfoldable pub states : List ℕ
  states = explored.found

  -- the entries of their moves
  unfoldable pub moves : List ℕ
  moves = explored.entries
