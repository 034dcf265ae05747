-- TO BELIEVE: the fields of a line: numbers and signed numbers behind commas, within 32 bits. Definitions.
use Rattle.std.specs.Prelude.{ℕ, suc, ◌≤◌, List, [], ◌∷◌, ◌++◌, ℤ, pos, negsuc}
use Rattle.rules.specs.Bounds.{max_number}
use Rattle.decimal.specs.Decimal.{decimal, signed_decimal, max_positive, max_negative}
use Rattle.decimal.specs.Word.{comma}

-- a field is a comma and a number
unfoldable pub field : ℕ → List ℕ
field n = comma ++ decimal n

abbrev pub signed_field : ℤ → List ℕ
signed_field x = comma ++ signed_decimal x

unfoldable pub fields : List ℕ → List ℕ
fields [] = []
fields (n ∷ ns) = field n ++ fields ns

-- numbers within 32 bits
abbrev pub Unsigned : ℕ → Type 0
Unsigned n = n ≤ max_number

pub data AllUnsigned : List ℕ → Type 0 where
  none : AllUnsigned []
  one : {n : ℕ} {ns : List ℕ} → Unsigned n → AllUnsigned ns → AllUnsigned (n ∷ ns)

-- negsuc n is -(n + 1)
abbrev pub InSigned : ℤ → Type 0
InSigned (pos n) = n ≤ max_positive
InSigned (negsuc n) = suc n ≤ max_negative
