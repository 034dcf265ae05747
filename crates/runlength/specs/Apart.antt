-- TO BELIEVE: which states of a chart no continuation of up to so many points tells apart. Definitions.
use Rattle.std.specs.Prelude.{ℕ, zero, suc, Bool, true, false, ◌&&◌}
use Rattle.runlength.specs.Automaton.{Automaton, Move, quiet, signal}

-- every number below n passes the test
unfoldable pub all_of : ℕ → (ℕ → Bool) → Bool
all_of zero f = true
all_of (suc n) f = all_of n f && f n

-- both moves signal, or both go on to states that pass the test
abbrev pub alike_moves : {A : Type 0} → (A → A → Bool) → Move A → Move A → Bool
alike_moves f (quiet s) (quiet t) = f s t
alike_moves f (quiet s) signal = false
alike_moves f signal (quiet t) = false
alike_moves f signal signal = true

module _ {A : Type 0} (a : Automaton A) where
  -- each continuation of up to k points first signals at the same point from both states, or from neither
  unfoldable pub alike_for : ℕ → A → A → Bool
  alike_for zero s t = true
  alike_for (suc k) s t = all_of a.zones (λ z. alike_moves (alike_for k) (a.move s z) (a.move t z))
