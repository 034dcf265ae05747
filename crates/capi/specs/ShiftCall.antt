-- TO BELIEVE: a call of the weights for a shift. Definitions.
use Rattle.std.specs.Prelude.{ℕ, ◌≡◌, List, ℤ, Err, Ok, Result}
use Rattle.rules.specs.declared.weights.ZoneWeights.{ZoneWeights}
use Rattle.rules.specs.declared.refusal.Refusal.{Refusal}
use Rattle.rules.specs.Check.{checked, Checked}
use Rattle.rules.specs.Weights.{weight_list}
use Rattle.shift.specs.Shift.{shift_of}
use Rattle.codes.specs.Codes.{check_code}

-- the array of a number for each zone: the weights from zone 0 on; a refusal leaves it as it was
abbrev pub weights_after : Result ZoneWeights Refusal → List ℕ → List ℕ
weights_after (Ok w) weights = weight_list w
weights_after (Err x) weights = weights

pub record ShiftCall (shift : ℤ) (w w' : List ℕ) (r : ℕ) : Type 0 where
  pub code : r ≡ check_code (checked (shift_of shift))
  pub weights : w' ≡ weights_after (shift_of shift) w
