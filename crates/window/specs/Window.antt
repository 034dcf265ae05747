-- TO BELIEVE: one rule's window: document 01's remembered hits of one rule, as a number whose digit a - 1 in base 2 is the hit of age a. The latest
-- point has age 1. Definitions.
use Rattle.std.specs.Prelude.{ℕ, zero, suc, ◌+◌, ◌-◌, ◌*◌, ◌/◌, ◌%◌, ◌^◌, min, Bool, false, cond, leb, eqb}
use Rattle.rules.specs.declared.Rule.{Rule}
use Rattle.rules.specs.Bounds.{max_window}
use Rattle.rules.specs.ZoneSet.{in_zone_set}

-- the oldest age that any rule can remember, and the number of different windows
abbrev pub max_age : ℕ
max_age = max_window - 1

abbrev pub window_base : ℕ
window_base = 2 ^ max_age

-- 1 if there is a hit of age a, else 0
abbrev pub hit_of_age : ℕ → ℕ → ℕ
hit_of_age a w = w / 2 ^ (a - 1) % 2

-- the hits of age 1 to n
unfoldable pub hits_up_to : ℕ → ℕ → ℕ
hits_up_to zero w = 0
hits_up_to (suc n) w = w % 2 + hits_up_to n (w / 2)

-- a hit is live while k can still be met with it: `seen` hits up to it, and `room` points to come before it leaves the last m
abbrev pub live_hit : ℕ → ℕ → ℕ → ℕ → ℕ
live_hit k seen room hit = cond (leb k (seen + room)) hit 0

-- the live hits of w, whose first age has `seen` newer hits and leaves the last m after `room` more points
unfoldable pub live : ℕ → ℕ → ℕ → ℕ → ℕ
live k seen zero w = 0
live k seen (suc room) w = live_hit k (seen + w % 2) (suc room) (w % 2) + 2 * live k (seen + w % 2) room (w / 2)

-- document 01's remembered hits: a hit of age a ≤ m - 1 is remembered if the hits of age 1 to a, plus m - a, are at least k; else it is
-- forgotten. `WindowLaws.remembered_age` says this of each age.
abbrev pub remembered : Rule → ℕ → ℕ
remembered r w = live r.k 0 (r.m - 1) w

-- the window with one more point in it: every hit a point older, and what is then remembered
abbrev pub next_window : Rule → ℕ → ℕ → ℕ
next_window r w z = remembered r (in_zone_set r.zones z + 2 * w)

-- at least k of the last m points are hits, this one among them
abbrev pub window_holds : Rule → ℕ → ℕ → Bool
window_holds r w z = leb r.k (in_zone_set r.zones z + hits_up_to max_age w)

-- a window that can be given with `count` points: fewer than k hits, none that should be forgotten, none older than the points counted
abbrev pub valid_window : ℕ → Rule → ℕ → Bool
valid_window count r w =
    cond (leb r.k (hits_up_to max_age w)) false
    (cond (eqb (remembered r w) w) (eqb (w / 2 ^ min count max_age) 0) false)
