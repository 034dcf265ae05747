-- A call of the weights for a shift, by the answer of the operation. Law.
use Rattle.std.specs.Prelude.{ℕ, ◌≡◌, List, ℤ, Result}
use Rattle.std.proofs.Common.{sym, ap, ◌∙◌}
use Rattle.rules.specs.Check.{checked}
use Rattle.rules.specs.declared.weights.ZoneWeights.{ZoneWeights}
use Rattle.rules.specs.declared.refusal.Refusal.{Refusal}
use Rattle.shift.specs.Shift.{shift_of}
use Rattle.capi.specs.ShiftCall.{weights_after, ShiftCall}
use Rattle.codes.specs.Codes.{check_code}

-- x is the shift as the operation was given it, t is its answer
pub shift_call : {shift x : ℤ} → x ≡ shift → (w w' : List ℕ) (r : ℕ) (a t : Result ZoneWeights Refusal) → a ≡ shift_of x → a ≡ t → r ≡ check_code (checked t)
    → w' ≡ weights_after t w → ShiftCall shift w w' r
shift_call {shift} {x} ex w w' r a t e q code after =
    let is : shift_of shift ≡ t = rw (← ex) (sym e ∙ q) in
    record { code = code ∙ sym (ap (λ (y : Result ZoneWeights Refusal). check_code (checked y)) is); weights = after ∙ sym (ap (λ (y : Result ZoneWeights Refusal). weights_after y w) is) }
