-- The move by state and zone, by the mask. Laws.
use Rattle.std.specs.Prelude.{◌≡◌, List, ℕ}
use Rattle.std.proofs.Common.{eq-eqb, ne_eqb}
use Rattle.rules.specs.declared.Rule.{Rule}
use Rattle.window.specs.declared.Move.TheVariants.{Quiet, Signal}
use Rattle.window.specs.State.{state_mask, next_state, move_of}

-- ---- the move

module _ (rs : List Rule) (s z : ℕ) where
  pub move_signal : (state_mask rs s z ≡ 0 → ⊥) → move_of rs s z ≡ Signal (state_mask rs s z)
  unfolding move_of
  move_signal e = rw (ne_eqb (state_mask rs s z) 0 e)

  pub move_quiet : state_mask rs s z ≡ 0 → move_of rs s z ≡ Quiet (next_state rs s z)
  unfolding move_of
  move_quiet e = rw (eq-eqb (state_mask rs s z) 0 e)
