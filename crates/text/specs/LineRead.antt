-- What the line parser gives of a line of a kind. Working definitions.
use Rattle.std.specs.Prelude.{ℕ, zero, suc, cond, List, [], ◌∷◌, ◌++◌, eqb, None, Option, Some}
use Rattle.decimal.specs.Word.{newline, word_at, on_found}
use Rattle.decimal.specs.Number.{field_at, on_number}
use Rattle.decimal.specs.Signed.{signed_field_at, raised, raised_of}
use Rattle.grammar.specs.LineValues.{Field, number, signed, Value, Values}
use Rattle.grammar.specs.TextReading.{values_at}
use Rattle.grammar.specs.Read.{Seen, found, other}
use Rattle.text.specs.declared.lines.LineRead.{LineRead}

-- the most fields of a line
abbrev pub most_fields : ℕ
most_fields = 8

-- a field by its letter: `s` for a signed number, any other for a number
abbrev pub field_of : ℕ → Field
field_of b = cond (eqb b 115) signed number

abbrev pub fields_of : List ℕ → List Field
fields_of [] = []
fields_of (b ∷ bs) = field_of b ∷ fields_of bs

-- a value as an unsigned number: a signed one 2^31 higher
abbrev pub code : (f : Field) → Value f → ℕ
code number n = n
code signed x = raised x

unfoldable pub codes : (fs : List Field) → Values fs → List ℕ
codes [] x = []
codes (f ∷ fs) x = code f x.0 ∷ codes fs x.1

-- n places with the first numbers of a list, filled up with 0
unfoldable pub slots_of : ℕ → List ℕ → List ℕ
slots_of zero l = []
slots_of (suc n) [] = 0 ∷ slots_of n []
slots_of (suc n) (x ∷ l) = x ∷ slots_of n l

abbrev pub line_read : ℕ → List ℕ → LineRead
line_read next values = record { next = next; values = slots_of most_fields values }

-- what is given of what is seen
abbrev pub line_of : (fs : List Field) → Seen (Values fs) → Option LineRead
line_of fs (found x next) = Some (line_read next (codes fs x))
line_of fs other = None

-- the line at an offset, where one of the word with these fields is asked for
unfoldable pub line_read_at : List ℕ → List Field → List ℕ → ℕ → Option LineRead
line_read_at word fs s at = line_of fs (values_at word fs s at)

-- ---- field by field

abbrev pub code_at : Field → List ℕ → ℕ → Option (ℕ × ℕ)
code_at number s p = field_at s p
code_at signed s p = raised_of (signed_field_at s p)

-- the fields from p on and LF, behind those whose values are w
unfoldable pub codes_from : List Field → List ℕ → ℕ → List ℕ → Option LineRead
codes_from [] s p w = on_found (word_at newline s p) (λ next. Some (line_read next w)) None
codes_from (f ∷ fs) s p w = on_number (code_at f s p) (λ x e. codes_from fs s e (w ++ (x ∷ []))) None
