-- TO BELIEVE: Document 01's standing: the remembered hits of all rules, as one number whose digit i in base `window_base` is the window of rule i.
-- Definitions.
use Rattle.std.specs.Prelude.{ℕ, ◌+◌, ◌*◌, ◌/◌, ◌%◌, Bool, false, cond, List, [], ◌∷◌, eqb}
use Rattle.rules.specs.declared.Rule.{Rule}
use Rattle.rules.specs.Mask.{mask_of}
use Rattle.window.specs.Window.{window_base, next_window, window_holds, valid_window}
use Rattle.window.specs.declared.Move.{Move}
use Rattle.window.specs.declared.Move.TheVariants.{Quiet, Signal}

-- nothing is remembered
abbrev pub empty_state : ℕ
empty_state = 0

-- every rule's window is valid, and there is no hit in a window beyond the rules
unfoldable pub valid_state : ℕ → List Rule → ℕ → Bool
valid_state count [] s = eqb s 0
valid_state count (r ∷ rs) s = cond (valid_window count r (s % window_base)) (valid_state count rs (s / window_base)) false

-- which rules hold at a point in the zone z
unfoldable pub holding : List Rule → ℕ → ℕ → List Bool
holding [] s z = []
holding (r ∷ rs) s z = window_holds r (s % window_base) z ∷ holding rs (s / window_base) z

-- every window with the point in it
unfoldable pub next_state : List Rule → ℕ → ℕ → ℕ
next_state [] s z = 0
next_state (r ∷ rs) s z = next_window r (s % window_base) z + window_base * next_state rs (s / window_base) z

-- document 01's mask: the sum of 2^index over the rules that hold
abbrev pub state_mask : List Rule → ℕ → ℕ → ℕ
state_mask rs s z = mask_of (holding rs s z)

-- what a point does to a state, whatever the count: a signal with the mask where some rule holds, else on to the next state
abbrev pub move_by : ℕ → ℕ → Move
move_by mask t = cond (eqb mask 0) (Quiet t) (Signal mask)

unfoldable pub move_of : List Rule → ℕ → ℕ → Move
move_of rs s z = move_by (state_mask rs s z) (next_state rs s z)
