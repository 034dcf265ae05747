-- TO BELIEVE: the table program's percentile lines. Definitions.
use Rattle.std.specs.Prelude.{ℕ, ◌+◌, ◌*◌, List, [], ◌∷◌, ◌++◌, length}
use Rattle.decimal.specs.Word.{comma, newline}
use Rattle.bracket.specs.declared.Bracket.{Bracket}
use Rattle.bracket.specs.declared.Bracket.TheVariants.{At, Between, Open, Beyond}
use Rattle.summary.specs.declared.Summary.{Summary}
use Rattle.decimal.specs.Fields.{field}
use Rattle.write.specs.Field.{field_room}

-- `q`
abbrev pub q_word : List ℕ
q_word = 113 ∷ []

-- `at`
abbrev pub at_word : List ℕ
at_word = 97 ∷ 116 ∷ []

-- `between`
abbrev pub between_word : List ℕ
between_word = 98 ∷ 101 ∷ 116 ∷ 119 ∷ 101 ∷ 101 ∷ 110 ∷ []

-- `open`
abbrev pub open_word : List ℕ
open_word = 111 ∷ 112 ∷ 101 ∷ 110 ∷ []

-- `beyond`
abbrev pub beyond_word : List ℕ
beyond_word = 98 ∷ 101 ∷ 121 ∷ 111 ∷ 110 ∷ 100 ∷ []

-- where the percentile lies: at,n or between,low,high or open,low or beyond,h
unfoldable pub bracket_fields : Bracket → List ℕ
bracket_fields (At n) = comma ++ at_word ++ field n
bracket_fields (Between low high) = comma ++ between_word ++ field low ++ field high
bracket_fields (Open low) = comma ++ open_word ++ field low
bracket_fields (Beyond h) = comma ++ beyond_word ++ field h

-- q,p and where it lies
unfoldable pub percent_line : ℕ → Bracket → List ℕ
percent_line p bracket = q_word ++ field p ++ bracket_fields bracket ++ newline

-- the percents 5, 25, 50, 75, 95
unfoldable pub percent_lines : Summary → List ℕ
percent_lines s =
    percent_line 5 s.p5 ++ percent_line 25 s.p25 ++ percent_line 50 s.p50 ++ percent_line 75 s.p75 ++ percent_line 95 s.p95

-- ---- working: the most bytes that each has; the longest bracket is `between` with its two fields
abbrev pub bracket_room : ℕ
bracket_room = length comma + length between_word + field_room + field_room

abbrev pub percent_room : ℕ
percent_room = length q_word + field_room + bracket_room + length newline

abbrev pub percents_room : ℕ
percents_room = 5 * percent_room
