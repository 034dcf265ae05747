-- What an accepted list has: every rule's numbers in bounds. The precondition of what runs after the check. Working definitions.
use Rattle.std.specs.Prelude.{◌≤◌, List, [], ◌∷◌}
use Rattle.rules.specs.declared.Rule.{Rule}
use Rattle.rules.specs.Bounds.{max_window, min_hits, min_zone_set, max_zone_set}

pub record InBounds (r : Rule) : Type 0 where
  pub some_hits : min_hits ≤ r.k
  pub hits_fit : r.k ≤ r.m
  pub window : r.m ≤ max_window
  pub some_zone : min_zone_set ≤ r.zones
  pub zone_set : r.zones ≤ max_zone_set

unfoldable pub AllInBounds : List Rule → Type 0
AllInBounds [] = Unit {0}
AllInBounds (r ∷ rs) = InBounds r × AllInBounds rs
