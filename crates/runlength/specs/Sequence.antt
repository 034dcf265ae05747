-- TO BELIEVE: sequences of zones. Definitions.
use Rattle.std.specs.Prelude.{ℕ, ◌<◌, List, [], ◌∷◌}

-- each zone of the sequence is one of the zones, the numbers below `zones`
unfoldable pub AllBelow : ℕ → List ℕ → Type 0
AllBelow zones [] = Unit {0}
AllBelow zones (z ∷ q) = (z < zones) × AllBelow zones q
