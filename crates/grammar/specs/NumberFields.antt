-- TO BELIEVE: fields that are all numbers, and their values as a list. Definitions.
use Rattle.std.specs.Prelude.{ℕ, zero, suc, List, [], ◌∷◌}
use Rattle.grammar.specs.LineValues.{Field, number, Values}

-- n of them
abbrev pub numbers : ℕ → List Field
numbers zero = []
numbers (suc n) = number ∷ numbers n

-- what they say, in their order
unfoldable pub numbers_in : (n : ℕ) → Values (numbers n) → List ℕ
numbers_in zero x = []
numbers_in (suc n) x = x.0 ∷ numbers_in n x.1

-- fields that say the first n numbers of a list
unfoldable pub number_values : (n : ℕ) → List ℕ → Values (numbers n)
number_values zero l = tt
number_values (suc n) [] = (0, number_values n [])
number_values (suc n) (x ∷ l) = (x, number_values n l)
