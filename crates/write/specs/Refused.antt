-- TO BELIEVE: the line of a refused text. Definitions.
use Rattle.std.specs.Prelude.{ℕ, ◌+◌, List, [], ◌∷◌, ◌++◌, length}
use Rattle.decimal.specs.Word.{newline}
use Rattle.decimal.specs.Fields.{field}
use Rattle.write.specs.Field.{short_field}

-- `refused`
abbrev pub refused_word : List ℕ
refused_word = 114 ∷ 101 ∷ 102 ∷ 117 ∷ 115 ∷ 101 ∷ 100 ∷ []

-- refused,number,place
unfoldable pub refused_line : ℕ → ℕ → List ℕ
refused_line number place = refused_word ++ field number ++ field place ++ newline

-- ---- working: the most bytes that it has

abbrev pub refused_room : ℕ
refused_room = length refused_word + short_field + short_field + length newline
