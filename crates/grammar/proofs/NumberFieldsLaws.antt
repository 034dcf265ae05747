-- Laws of fields that are all numbers.
use Rattle.std.specs.Prelude.{ℕ, zero, suc, ◌≡◌, refl, List, [], ◌∷◌, ◌++◌, length}
use Rattle.std.proofs.Common.{sym, ap, ◌∙◌, append_assoc, arith}
use Rattle.decimal.specs.Word.{newline}
use Rattle.decimal.specs.Fields.{field, fields, AllUnsigned, none, one}
use Rattle.grammar.specs.LineValues.{Values, values_bytes, ValuesFit}
use Rattle.grammar.specs.NumberFields.{numbers, numbers_in, number_values}

pub numbers_length : (n : ℕ) (x : Values (numbers n)) → length (numbers_in n x) ≡ n
unfolding numbers_in
numbers_length zero x = refl
numbers_length (suc n) x = omega (arith, numbers_length n x.1)

pub in_values : (n : ℕ) (l : List ℕ) → length l ≡ n → numbers_in n (number_values n l) ≡ l
unfolding numbers_in number_values
in_values zero [] e = refl
in_values zero (x ∷ l) e = absurd (omega arith)
in_values (suc n) [] e = absurd (omega arith)
in_values (suc n) (x ∷ l) e = ap (λ (m : List ℕ). x ∷ m) (in_values n l (omega arith))

pub values_in : (n : ℕ) (x : Values (numbers n)) → number_values n (numbers_in n x) ≡ x
unfolding numbers_in number_values
values_in zero x = refl
values_in (suc n) x = ap (λ (y : Values (numbers n)). (x.0, y)) (values_in n x.1)

-- their bytes are those of fields one behind the other
pub values_fields : (n : ℕ) (x : Values (numbers n)) → values_bytes (numbers n) x ≡ fields (numbers_in n x) ++ newline
unfolding values_bytes numbers_in fields
values_fields zero x = refl
values_fields (suc n) x =
    ap (λ (l : List ℕ). field x.0 ++ l) (values_fields n x.1) ∙ sym (append_assoc (field x.0) (fields (numbers_in n x.1)) newline)

-- and each is within 32 bits where the numbers are
pub values_fit : {l : List ℕ} → AllUnsigned l → ValuesFit (numbers (length l)) (number_values (length l) l)
unfolding number_values ValuesFit
values_fit none = tt
values_fit (one u a) = (u, values_fit a)
