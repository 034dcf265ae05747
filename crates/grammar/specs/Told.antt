-- The conditions of a clear grammar on its kinds, as facts. Working definitions.
use Rattle.std.specs.Prelude.{ℕ, ◌<◌, ◌≡◌, true, List, [], ◌∷◌}
use Rattle.grammar.specs.Form.{Kind, named}
use Rattle.grammar.specs.Clear.{word_number, fields_number, told}

abbrev pub Letters : List ℕ → Type 0
Letters [] = Unit {0}
Letters (b ∷ w) = (96 < b) × (b < 123) × Letters w

abbrev pub Proper : Kind → Type 0
Proper (named w fs) = Letters w

abbrev pub Agree : Kind → Kind → Type 0
Agree (named w fs) (named v gs) = word_number w ≡ word_number v → fields_number fs ≡ fields_number gs

abbrev pub Told : List Kind → List Kind → Type 0
Told ks js = told ks js ≡ true
