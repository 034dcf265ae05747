-- What the parser gives of a run of lines of a kind. Working definitions.
use Rattle.std.specs.Prelude.{ℕ, suc, ◌+◌, cond, List, [], ◌∷◌, ltb, length, get_or}
use Rattle.grammar.specs.LineValues.{Field, Values}
use Rattle.grammar.specs.Form.{named, line}
use Rattle.grammar.specs.TextReading.{many_at, after_many}
use Rattle.text.specs.declared.runs.Run.{Run}
use Rattle.text.specs.LineRead.{most_fields, codes, slots_of}

-- the value of the field of an index, as the parser gives it
abbrev pub field_in : (fs : List Field) → ℕ → Values fs → ℕ
field_in fs field x = get_or (slots_of most_fields (codes fs x)) field 0

-- how many lines there are before the first whose value of that field is not below the bound
unfoldable pub lines_below : (fs : List Field) → ℕ → ℕ → List (Values fs) → ℕ
lines_below fs field bound [] = 0
lines_below fs field bound (x ∷ xs) = cond (ltb (field_in fs field x) bound) (suc (lines_below fs field bound xs)) 0

-- the lines of the word with these fields from an offset on
unfoldable pub run_at : List ℕ → List Field → ℕ → ℕ → List ℕ → ℕ → Run
run_at word fs field bound s at =
    let xs = many_at (line (named word fs)) (length s) s at in
    record { count = length xs; below = lines_below fs field bound xs; next = after_many (line (named word fs)) (length s) s at }

-- of `count` lines `below` come before the first whose value is not below the bound: how many do with one of this value more
abbrev pub below_more : ℕ → ℕ → ℕ → ℕ → ℕ
below_more bound count below value = cond (ltb below count) below (cond (ltb value bound) (count + 1) count)
