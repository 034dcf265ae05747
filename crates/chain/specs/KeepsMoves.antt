-- What a refused chain leaves of the lent list. A working definition.
use Rattle.std.specs.Prelude.{ℕ, ◌≡◌, List, Err, Ok, Result}
use Rattle.rules.specs.declared.refusal.Refusal.{Refusal}

-- a refusal leaves the list as it was lent
abbrev pub KeepsMoves : List ℕ → List ℕ → Result ℕ Refusal → Type 0
KeepsMoves before m (Ok n) = Unit {0}
KeepsMoves before m (Err x) = m ≡ before
