-- TO BELIEVE: the least number that passes a test. Definitions.
use Rattle.std.specs.Prelude.{ℕ, zero, suc, ◌≤◌, ◌<◌, ◌≡◌, Bool, true, false, cond, ltb}

-- the least number below n that passes the test, or n where none does
unfoldable pub lowest : (ℕ → Bool) → ℕ → ℕ
lowest f zero = 0
lowest f (suc n) = cond (ltb (lowest f n) n) (lowest f n) (cond (f n) n (suc n))

-- r is that number
pub record Lowest (f : ℕ → Bool) (n r : ℕ) : Type 0 where
  pub most : r ≤ n
  pub hit : r < n → f r ≡ true
  pub miss : (j : ℕ) → j < r → f j ≡ false
