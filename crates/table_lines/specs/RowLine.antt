-- TO BELIEVE: the table program's lines, but for the percentiles. Definitions.
use Rattle.std.specs.Prelude.{ℕ, zero, suc, ◌+◌, List, [], ◌∷◌, ◌++◌, length, get_or}
use Rattle.decimal.specs.Decimal.{decimal}
use Rattle.write.specs.NumberRoom.{number_room}
use Rattle.decimal.specs.Word.{comma, newline}
use Rattle.runlength.specs.Chain.{cdf_of}
use Rattle.decimal.specs.Fields.{field}
use Rattle.write.specs.Field.{field_room}

-- `standings`
abbrev pub standings_word : List ℕ
standings_word = 115 ∷ 116 ∷ 97 ∷ 110 ∷ 100 ∷ 105 ∷ 110 ∷ 103 ∷ 115 ∷ []

-- `n`
abbrev pub n_word : List ℕ
n_word = 110 ∷ []

-- `chance`
abbrev pub chance_word : List ℕ
chance_word = 99 ∷ 104 ∷ 97 ∷ 110 ∷ 99 ∷ 101 ∷ []

-- `by`
abbrev pub by_word : List ℕ
by_word = 98 ∷ 121 ∷ []

-- `left`
abbrev pub left_word : List ℕ
left_word = 108 ∷ 101 ∷ 102 ∷ 116 ∷ []

-- `arl`
abbrev pub arl_word : List ℕ
arl_word = 97 ∷ 114 ∷ 108 ∷ []

-- standings,N
unfoldable pub standings_line : ℕ → List ℕ
standings_line count = standings_word ++ field count ++ newline

-- n,chance,by,left
abbrev pub header_line : List ℕ
header_line = n_word ++ comma ++ chance_word ++ comma ++ by_word ++ comma ++ left_word ++ newline

-- the four numbers of a row
unfoldable pub row_line : ℕ → ℕ → ℕ → ℕ → List ℕ
row_line n pmf cdf survival = decimal n ++ field pmf ++ field cdf ++ field survival ++ newline

-- the rows 1 to h: the chance at n, the sum of the chances up to n, what is left at n
unfoldable pub table_rows : ℕ → List ℕ → List ℕ → List ℕ
table_rows zero pmf survival = []
table_rows (suc n) pmf survival =
    table_rows n pmf survival ++ row_line (suc n) (get_or pmf n 0) (cdf_of pmf (suc n)) (get_or survival n 0)

-- arl,whole,fraction,shortfall: the mean, and its error bound
unfoldable pub arl_line : ℕ → ℕ → ℕ → List ℕ
arl_line whole fraction error = arl_word ++ field whole ++ field fraction ++ field error ++ newline

-- ---- working: the most bytes that each has

abbrev pub standings_room : ℕ
standings_room = length standings_word + field_room + length newline

abbrev pub header_room : ℕ
header_room = length header_line

abbrev pub row_room : ℕ
row_room = number_room + field_room + field_room + field_room + length newline

abbrev pub arl_room : ℕ
arl_room = length arl_word + field_room + field_room + field_room + length newline
