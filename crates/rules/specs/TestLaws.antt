-- Laws of tests that come one behind another.
use Rattle.std.specs.Prelude.{◌≡◌, refl, Bool, true, false, cond, ℕ}
use Rattle.std.proofs.Common.{arith}

-- where one test comes behind another, both passed
pub both : (x y : Bool) → cond x y false ≡ true → (x ≡ true) × (y ≡ true)
both true y e = (refl, e)
both false y e = let n : ◌≡◌ {A = ℕ} 0 1 = cc in absurd (omega arith)
