-- Laws of fields one behind the other.
use Rattle.std.specs.Prelude.{ℕ, ◌≡◌, List, [], ◌∷◌, ◌++◌}
use Rattle.std.proofs.Common.{sym, append_assoc, append-nil}
use Rattle.decimal.specs.Fields.{field, fields, Unsigned, AllUnsigned, none, one}

pub fields_snoc : (ns : List ℕ) (n : ℕ) → fields (ns ++ (n ∷ [])) ≡ fields ns ++ field n
unfolding fields
fields_snoc [] n = append-nil (field n)
fields_snoc (m ∷ ns) n = rw (fields_snoc ns n) (sym (append_assoc (field m) (fields ns) (field n)))

pub unsigned_snoc : {ns : List ℕ} {n : ℕ} → AllUnsigned ns → Unsigned n → AllUnsigned (ns ++ (n ∷ []))
unsigned_snoc none u = one u none
unsigned_snoc (one v a) u = one v (unsigned_snoc a u)
