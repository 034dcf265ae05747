-- What was written of a bracket that is equal to another. Law.
use Rattle.std.specs.Prelude.{ℕ, ◌≡◌, List}
use Rattle.bracket.specs.declared.Bracket.{Bracket}
use Rattle.write.specs.Wrote.{Wrote}
use Rattle.table_lines.specs.PercentLine.{bracket_fields}

pub same_bracket : {a b : List ℕ} {i r : ℕ} {x y : Bracket} → x ≡ y → Wrote a i b r (bracket_fields y) → Wrote a i b r (bracket_fields x)
same_bracket e u = rw e u
