-- TO BELIEVE: the zones of a list of readings. Definition.
use Rattle.std.specs.Prelude.{ℕ, List, [], ◌∷◌, ℤ, ◌-ℤ◌}
use Rattle.monitor.specs.Zone.{zone_at}

-- the zones of readings on the chart with this centre and sigma
unfoldable pub zones_of : ℤ → ℕ → List ℤ → List ℕ
zones_of centre sigma [] = []
zones_of centre sigma (x ∷ xs) = zone_at (x -ℤ centre) sigma ∷ zones_of centre sigma xs
