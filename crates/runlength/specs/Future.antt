-- TO BELIEVE: when two states, of one chart or of two, have the same future, and a relation that shows it. Definitions.
use Rattle.std.specs.Prelude.{◌≡◌, ℕ, ◌<◌, Bool, ◌&&◌, List, eqb, length}
use Rattle.runlength.specs.Sequence.{AllBelow}
use Rattle.runlength.specs.Automaton.{Automaton, Move, quiet, signal, signals, run_length}

-- both moves signal, or both go on to states that R relates
unfoldable pub Alike : {A B : Type 0} → (A → B → Type 0) → Move A → Move B → Type 0
Alike R (quiet s) (quiet t) = R s t
Alike R (quiet s) signal = ⊥
Alike R signal (quiet t) = ⊥
Alike R signal signal = Unit {0}

-- the sequence first signals at its last point: it signals, and not before
abbrev pub first_signals : {A : Type 0} → Automaton A → A → List ℕ → Bool
first_signals a s q = signals a s q && eqb (run_length a s q) (length q)

module _ {A B : Type 0} (a : Automaton A) (b : Automaton B) where
  -- every continuation first signals at the same point from both states: it signals from both or from neither, and the run lengths agree
  pub record EqualFuture (s : A) (t : B) : Type 0 where
    pub same_zones : a.zones ≡ b.zones
    pub same_signals : (q : List ℕ) → AllBelow a.zones q → signals a s q ≡ signals b t q
    pub same_run_length : (q : List ℕ) → AllBelow a.zones q → run_length a s q ≡ run_length b t q

  -- the same sequences first signal from both states
  pub record SameFirstSignals (s : A) (t : B) : Type 0 where
    pub same_zones : a.zones ≡ b.zones
    pub same_first : (q : List ℕ) → AllBelow a.zones q → first_signals a s q ≡ first_signals b t q

  -- a relation that every zone keeps: from related states both signal, or both go on to related states
  pub record Simulation (R : A → B → Type 0) : Type 0 where
    pub same_zones : a.zones ≡ b.zones
    pub kept : (s : A) (t : B) → R s t → (z : ℕ) → z < a.zones → Alike R (a.move s z) (b.move t z)
