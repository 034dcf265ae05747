-- Laws of a mask: it is 0 exactly where no test holds, and a digit of it is its test's.
use Rattle.std.specs.Prelude.{◌≡◌, refl, Bool, true, false, List, [], ◌∷◌, ℕ, zero, suc, ◌+◌, ◌*◌, ◌/◌, ◌%◌, ◌^◌, get_or}
use Rattle.std.proofs.Common.{sym, ap, ◌∙◌, arith}
use Rattle.std.proofs.Math.Nat.{div-div-eq-div-mul, pow-succ', zero-div}
use Rattle.rules.specs.Mask.{bit, mask_of}

pub bit_zero : (t : Bool) (x : ℕ) → bit t + 2 * x ≡ 0 → (t ≡ false) × (x ≡ 0)
bit_zero true x e = absurd (omega arith)
bit_zero false x e = (refl, omega arith)

first_digit : (t : Bool) (x : ℕ) → (bit t + 2 * x) / 2 ^ 0 % 2 ≡ bit t
first_digit true x = omega arith
first_digit false x = omega arith

other_digits : (t : Bool) (x : ℕ) → (bit t + 2 * x) / 2 ≡ x
other_digits true x = omega arith
other_digits false x = omega arith

pub mask_digit : (ts : List Bool) (i : ℕ) → mask_of ts / 2 ^ i % 2 ≡ bit (get_or ts i false)
unfolding mask_of
mask_digit [] i = rw (zero-div (2 ^ i))
mask_digit (t ∷ ts) zero = first_digit t (mask_of ts)
mask_digit (t ∷ ts) (suc i) =
    ap (λ (p : ℕ). (bit t + 2 * mask_of ts) / p % 2) (pow-succ' 2 i)
    ∙ ap (λ (p : ℕ). p % 2) (sym (div-div-eq-div-mul (bit t + 2 * mask_of ts) 2 (2 ^ i)) ∙ ap (λ (p : ℕ). p / 2 ^ i) (other_digits t (mask_of ts)))
    ∙ mask_digit ts i
