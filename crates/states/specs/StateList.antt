-- What is said of a list of states and of the entries of their moves. Working definitions.
use Rattle.std.specs.Prelude.{ℕ, ◌/◌, ◌%◌, ◌<◌, ◌≡◌, List, length, get_or}
use Rattle.rules.specs.Bounds.{max_states}
use Rattle.runlength.specs.Automaton.{Automaton, Move, quiet, signal}
use Rattle.states.specs.States.{Met}
use Rattle.runlength.specs.Index.{Distinct, At}

-- x is the entry of a move: the index of the next state, or the mark of a signal
abbrev pub Entry : List ℕ → ℕ → Move ℕ → Type 0
Entry xs x (quiet t) = At xs x t
Entry xs x signal = x ≡ max_states

module _ (a : Automaton ℕ) (xs : List ℕ) where
  -- each is met
  pub record AllMet : Type 0 where
    pub met : (i : ℕ) → i < length xs → Met a (get_or xs i 0)

  -- each state that is met is there
  pub record HasAllMet : Type 0 where
    pub index : (s : ℕ) → Met a s → (i : ℕ) × At xs i s

  -- each entry so far is that of its move: state k / zones by zone k % zones
  pub record Right (ms : List ℕ) : Type 0 where
    pub right : (k : ℕ) → k < length ms → Entry xs (get_or ms k 0) (a.move (get_or xs (k / a.zones) 0) (k % a.zones))

-- different states, and each is met
pub record DifferentMet (a : Automaton ℕ) (xs : List ℕ) : Type 0 where
  pub distinct : Distinct xs
  pub all_met : AllMet a xs
