-- TO BELIEVE: a line that is a keyword and fields, each a number or a signed number: its bytes and its range, said
-- once for every such kind. Definitions.
use Rattle.std.specs.Prelude.{ℕ, List, [], ◌∷◌, ◌++◌, ℤ}
use Rattle.decimal.specs.Word.{newline}
use Rattle.decimal.specs.Fields.{field, signed_field, Unsigned, InSigned}

-- what a field is: a number, or one that may have a minus
pub data Field : Type 0 where
  number signed : Field

abbrev pub Value : Field → Type 0
Value number = ℕ
Value signed = ℤ

abbrev pub value_bytes : (f : Field) → Value f → List ℕ
value_bytes number n = field n
value_bytes signed x = signed_field x

abbrev pub ValueFits : (f : Field) → Value f → Type 0
ValueFits number n = Unsigned n
ValueFits signed x = InSigned x

-- the values of fields, one behind the other
abbrev pub Values : List Field → Type 0
Values [] = Unit {0}
Values (f ∷ fs) = Value f × Values fs

-- their bytes, and LF
unfoldable pub values_bytes : (fs : List Field) → Values fs → List ℕ
values_bytes [] x = newline
values_bytes (f ∷ fs) x = value_bytes f x.0 ++ values_bytes fs x.1

-- each within 32 bits
unfoldable pub ValuesFit : (fs : List Field) → Values fs → Type 0
ValuesFit [] x = Unit {0}
ValuesFit (f ∷ fs) x = ValueFits f x.0 × ValuesFit fs x.1
