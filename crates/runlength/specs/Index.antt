-- TO BELIEVE: the index of a number in a list, counted from 0; lists in which no number stands twice. Definitions.
use Rattle.std.specs.Prelude.{ℕ, suc, ◌<◌, ◌≡◌, cond, List, [], ◌∷◌, eqb, length, get_or}

-- the index of the first t in a list, or the list's length where there is none
unfoldable pub index_of : ℕ → List ℕ → ℕ
index_of t [] = 0
index_of t (x ∷ xs) = cond (eqb x t) 0 (suc (index_of t xs))

-- no two indices hold the same
pub record Distinct (xs : List ℕ) : Type 0 where
  pub apart : (i j : ℕ) → i < j → j < length xs → get_or xs i 0 ≡ get_or xs j 0 → ⊥

-- s stands at the index i
pub record At (xs : List ℕ) (i s : ℕ) : Type 0 where
  pub below : i < length xs
  pub is : get_or xs i 0 ≡ s
