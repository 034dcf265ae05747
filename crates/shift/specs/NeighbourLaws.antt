-- A rule of three neighbours in a table: one test over the whole of it, and the law that carries it to each place.
use Rattle.std.specs.Prelude.{Bool, true, false, List, [], ◌∷◌, ℕ, zero, suc, ◌<◌, T, length, get_or}
use Rattle.std.proofs.Common.{le_of_suc-le-suc, not-suc-le-zero}

abbrev pub both : Bool → Bool → Bool
both true b = b
both false b = false

pub both_first : (a b : Bool) → T (both a b) → T a
both_first true b t = tt
both_first false b t = t

pub both_second : (a b : Bool) → T (both a b) → T b
both_second true b t = t
both_second false b t = absurd t

module _ (f : ℕ → ℕ → ℕ → Bool) where
  -- the test f passes at each three neighbours of a ∷ b ∷ xs
  abbrev pub along : ℕ → ℕ → List ℕ → Bool
  along a b [] = true
  along a b (x ∷ xs) = both (f a b x) (along b x xs)

  pub along_at : (a b : ℕ) (xs : List ℕ) → T (along a b xs) → (k : ℕ) → k < length xs
      → T (f (get_or (a ∷ b ∷ xs) k 0) (get_or (b ∷ xs) k 0) (get_or xs k 0))
  along_at a b [] t k h = absurd (not-suc-le-zero h)
  along_at a b (x ∷ xs) t zero h = both_first (f a b x) (along b x xs) t
  along_at a b (x ∷ xs) t (suc k) h = along_at b x xs (both_second (f a b x) (along b x xs) t) k (le_of_suc-le-suc h)
