-- Laws of how many numbers lead, each being led by a number.
use Rattle.std.specs.Prelude.{ℕ, ◌+◌, ◌≤◌, ◌<◌, ◌≡◌, Bool, eqb}
use Rattle.std.proofs.Math.Path.{ap}
use Rattle.std.proofs.Math.Bool.{true, false}
use native.Mathlib.Omega.{arith}
use Rattle.std.proofs.Math.Nat.{le_refl}
use Rattle.std.proofs.Common.{eq-eqb, ne_eqb}
use Rattle.runlength.specs.Sum.{only}
use Rattle.runlength.specs.SumLaws.{sum_cong, sum_le, sum_const, sum_more, sum_upto}
use Rattle.runlength.specs.Merged.{lead_before}

module _ (leader : ℕ → ℕ) where
  -- one more below the next number where a number leads, and else as many
  pub lead_one : (i : ℕ) → leader i ≡ i → lead_before leader (i + 1) ≡ lead_before leader i + 1
  unfolding lead_before
  lead_one i e =
      let one : only (eqb (leader i) i) 1 ≡ 1 = ap (λ b. only b 1) (eq-eqb (leader i) i e) in
      omega (arith, sum_more i (λ j. only (eqb (leader j) j) 1))

  pub lead_none : (i : ℕ) → (leader i ≡ i → ⊥) → lead_before leader (i + 1) ≡ lead_before leader i
  unfolding lead_before
  lead_none i e =
      let none : only (eqb (leader i) i) 1 ≡ 0 = ap (λ b. only b 1) (ne_eqb (leader i) i e) in
      omega (arith, sum_more i (λ j. only (eqb (leader j) j) 1))

  -- a number that leads has fewer before it than any later one
  pub lead_less : (i j : ℕ) → leader i ≡ i → i < j → lead_before leader i < lead_before leader j
  unfolding lead_before
  lead_less i j e h = omega (arith, lead_one i e, sum_upto (i + 1) j (λ s. only (eqb (leader s) s) 1) (omega arith))

  -- no more lead than there are
  pub lead_most : (i : ℕ) → lead_before leader i ≤ i
  unfolding lead_before
  lead_most i = omega (arith, sum_le i (λ j. only (eqb (leader j) j) 1) (λ j. 1) (λ j h. one (eqb (leader j) j)), sum_const i 1)
    where
      one : (b : Bool) → only b 1 ≤ 1
      one true = le_refl 1
      one false = omega arith

-- as many lead where each is led by the same
pub lead_cong : (f g : ℕ → ℕ) (i : ℕ) → ((j : ℕ) → j < i → f j ≡ g j) → lead_before f i ≡ lead_before g i
unfolding lead_before
lead_cong f g i e = sum_cong i _ _ (λ j h. ap (λ x. only (eqb x j) 1) (e j h))
