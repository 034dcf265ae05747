-- What the move of a point may assume of a window and of a state, and what it keeps rule by rule. Working definitions.
use Rattle.std.specs.Prelude.{ℕ, ◌-◌, ◌*◌, ◌/◌, ◌^◌, ◌≤◌, ◌<◌, ◌≡◌, true, List}
use Rattle.rules.specs.declared.Rule.{Rule}
use Rattle.rules.specs.Check.{rules_from}
use Rattle.window.specs.Window.{max_age, hits_up_to, remembered}
use Rattle.window.specs.State.{valid_state, state_mask, next_state}

-- a window with fewer than k hits, all of them remembered
pub record Settled (r : Rule) (w : ℕ) : Type 0 where
  pub few : hits_up_to max_age w < r.k
  pub kept : remembered r w ≡ w

-- a state that can be given with some count of points: only how old a hit may be depends on the count
pub record CanBeGiven (rs : List Rule) (s : ℕ) : Type 0 where
  pub count : ℕ
  pub valid : valid_state count rs s ≡ true

-- the windows of a state from rule i on
abbrev pub windows_from : ℕ → ℕ → ℕ
windows_from i s = s / 2 ^ (max_age * i)

-- the rules from i up to n are moved by a point in the zone z: their mask, and their windows with the point in them
pub record MovedFrom (slots : List Rule) (n s z i mask next : ℕ) : Type 0 where
  pub at_most : i ≤ n
  pub mask_is : mask ≡ state_mask (rules_from (n - i) i slots) (windows_from i s) z
  pub next_is : next ≡ next_state (rules_from (n - i) i slots) (windows_from i s) z
