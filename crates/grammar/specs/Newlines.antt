-- TO BELIEVE: how many lines there are: their LFs. Definition.
use Rattle.std.specs.Prelude.{ℕ, ◌+◌, cond, List, [], ◌∷◌, eqb}

-- how many LFs there are
unfoldable pub newlines : List ℕ → ℕ
newlines [] = 0
newlines (b ∷ bytes) = cond (eqb b 10) 1 0 + newlines bytes
