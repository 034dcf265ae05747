-- No number has an LF in it. Laws.
use Rattle.std.specs.Prelude.{ℕ, zero, suc, ◌+◌, ◌/◌, ◌%◌, ◌≡◌, refl, List, [], ◌∷◌, ◌++◌, ℤ, pos, negsuc}
use Rattle.std.proofs.Common.{arith, ne_eqb}
use Rattle.decimal.specs.Decimal.{digit_byte, digits_of, decimal, signed_decimal}
use Rattle.decimal.specs.Fields.{field, signed_field, fields}
use Rattle.grammar.specs.Newlines.{newlines}

pub newlines_append : (xs ys : List ℕ) → newlines (xs ++ ys) ≡ newlines xs + newlines ys
unfolding newlines
newlines_append [] ys = omega arith
newlines_append (x ∷ xs) ys = omega (arith, newlines_append xs ys)

newlines_digits : (k n : ℕ) → newlines (digits_of k n) ≡ 0
unfolding newlines digits_of
newlines_digits zero n = refl
newlines_digits (suc k) zero = refl
newlines_digits (suc k) (suc n) =
    let e = ne_eqb (digit_byte (suc n % 10)) 10 (omega arith) in
    rw (newlines_append, newlines_digits k (suc n / 10), e)

newlines_decimal : (n : ℕ) → newlines (decimal n) ≡ 0
unfolding newlines decimal
newlines_decimal zero = refl
newlines_decimal (suc n) = newlines_digits (suc n) (suc n)

newlines_signed : (x : ℤ) → newlines (signed_decimal x) ≡ 0
unfolding newlines signed_decimal
newlines_signed (pos n) = newlines_decimal n
newlines_signed (negsuc n) = omega (arith, newlines_decimal (suc n))

pub newlines_field : (n : ℕ) → newlines (field n) ≡ 0
unfolding newlines field
newlines_field n = omega (arith, newlines_decimal n)

pub newlines_signed_field : (x : ℤ) → newlines (signed_field x) ≡ 0
unfolding newlines
newlines_signed_field x = omega (arith, newlines_signed x)

pub newlines_fields : (ns : List ℕ) → newlines (fields ns) ≡ 0
unfolding newlines fields
newlines_fields [] = refl
newlines_fields (n ∷ ns) = omega (arith, newlines_append (field n) (fields ns), newlines_field n, newlines_fields ns)
