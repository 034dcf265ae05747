-- TO BELIEVE: a kind of line is a keyword and its fields; what a line of a kind says, its bytes, and what a line may be. Definitions.
use Rattle.std.specs.Prelude.{ℕ, ◌⊎◌, List, ◌++◌}
use Rattle.std.proofs.Common.{inl, inr}
use Rattle.grammar.specs.LineValues.{Field, Values, values_bytes, ValuesFit}

-- a kind of line: its keyword, and its fields
pub data Kind : Type 0 where
  named : List ℕ → List Field → Kind

-- what a line of the kind says: the values of its fields
abbrev pub Says : Kind → Type 0
Says (named word fs) = Values fs

-- its bytes, LF included
abbrev pub line_bytes : (k : Kind) → Says k → List ℕ
line_bytes (named word fs) x = word ++ values_bytes fs x

-- its numbers, each within 32 bits
abbrev pub LineFits : (k : Kind) → Says k → Type 0
LineFits (named word fs) x = ValuesFit fs x

-- a line, by its kind and what it says
abbrev pub Saying : Type 0
Saying = (k : Kind) × Says k

abbrev pub bytes_said : Saying → List ℕ
bytes_said m = line_bytes m.0 m.1

abbrev pub Fits : Saying → Type 0
Fits m = LineFits m.0 m.1

-- what one line may be: a line of a kind, or of one form or another
pub data Form : Type 0 where
  line : Kind → Form
  either : Form → Form → Form

abbrev pub Said : Form → Type 0
Said (line k) = Says k
Said (either f g) = Said f ⊎ Said g

unfoldable pub saying : (f : Form) → Said f → Saying
saying (line k) x = (k, x)
saying (either f g) (inl x) = saying f x
saying (either f g) (inr x) = saying g x
