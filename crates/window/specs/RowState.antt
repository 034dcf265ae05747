-- TO BELIEVE: the state of a row of zones, the newest first: the remembered hits of each rule among its points. Definitions.
use Rattle.std.specs.Prelude.{ℕ, ◌+◌, ◌*◌, List, [], ◌∷◌}
use Rattle.rules.specs.declared.Rule.{Rule}
use Rattle.rules.specs.ZoneSet.{in_zone_set}
use Rattle.window.specs.Window.{window_base, remembered}

-- the hits of the whole row, the hit of age a at digit a - 1
unfoldable pub row_hits : ℕ → List ℕ → ℕ
row_hits zones [] = 0
row_hits zones (z ∷ row) = in_zone_set zones z + 2 * row_hits zones row

abbrev pub window_of_row : Rule → List ℕ → ℕ
window_of_row r row = remembered r (row_hits r.zones row)

unfoldable pub state_of_row : List Rule → List ℕ → ℕ
state_of_row [] row = 0
state_of_row (r ∷ rs) row = window_of_row r row + window_base * state_of_row rs row
