-- TO BELIEVE: finite sums and finite lists of a function of the index. Definitions.
use Rattle.std.specs.Prelude.{ℕ, zero, suc, ◌+◌, Bool, true, false, List, [], ◌∷◌, ◌++◌, drop, get_or}

-- f 0 + f 1 + .. + f (n - 1)
unfoldable pub sum : ℕ → (ℕ → ℕ) → ℕ
sum zero f = 0
sum (suc n) f = sum n f + f n

-- a list as a function of the index, 0 beyond its end
abbrev pub at : List ℕ → ℕ → ℕ
at l i = get_or l i 0

-- x where the test holds, else 0
abbrev pub only : Bool → ℕ → ℕ
only true x = x
only false x = 0

-- the list f 0, f 1, .., f (n - 1)
unfoldable pub tab : ℕ → (ℕ → ℕ) → List ℕ
tab zero f = []
tab (suc n) f = tab n f ++ f n ∷ []

-- the list d with its first n places written by f, and the places beyond kept
unfoldable pub front : ℕ → (ℕ → ℕ) → List ℕ → List ℕ
front n f d = tab n f ++ drop n d

-- the sum of f over ALL sequences of n zones, a zone being a number below `zones`
unfoldable pub sum_sequences : ℕ → ℕ → (List ℕ → ℕ) → ℕ
sum_sequences zones zero f = f []
sum_sequences zones (suc n) f = sum zones (λ z. sum_sequences zones n (λ q. f (z ∷ q)))
