-- TO BELIEVE: the percentile of a run length, by a test that says whether the cdf has reached it, and what two bounds say of it. Definitions.
use Rattle.std.specs.Prelude.{Bool, cond, ℕ, zero, suc, ◌≤◌, ◌<◌, T, Option, Some, None}

-- the least n from 1 to h that passes the test
unfoldable pub least : (ℕ → Bool) → ℕ → Option ℕ
least f zero = None
least f (suc n) = elim (least f n) [ Some k ↦ Some k | None ↦ cond (f (suc n)) (Some (suc n)) None ]

-- the percentile is n: reached at n, and at no smaller number from 1
pub record Percentile (reached : ℕ → Bool) (n : ℕ) : Type 0 where
  pub from_one : 1 ≤ n
  pub there : T (reached n)
  pub first : (m : ℕ) → 1 ≤ m → m < n → T (reached m) → ⊥

-- what the bounds up to h say: no low bound, the percentile is beyond h; no high bound, it is not below the low one; else it is between them
unfoldable pub Contains : (ℕ → Bool) → ℕ → Option ℕ → Option ℕ → Type 0
Contains reached h None high = (n : ℕ) → Percentile reached n → h < n
Contains reached h (Some l) None = (n : ℕ) → Percentile reached n → l ≤ n
Contains reached h (Some l) (Some u) = (n : ℕ) × Percentile reached n × (l ≤ n) × (n ≤ u)
