-- TO BELIEVE: Document 01's plain chart, from its own paragraph alone: a row of zones, the newest first. Definitions.
use Rattle.std.specs.Prelude.{ℕ, ◌+◌, Bool, true, false, cond, List, [], ◌∷◌, map, leb, ltb, eqb, length, take}
use Rattle.rules.specs.declared.Rule.{Rule}
use Rattle.rules.specs.Bounds.{zone_count, max_number}
use Rattle.rules.specs.Refusal.{number_of, bad_zone, bad_count}
use Rattle.rules.specs.ZoneSet.{in_zone_set}
use Rattle.rules.specs.Mask.{mask_of}

-- what a call is answered: the refusal's number; or the count with this point in it, and for a signal the mask
pub data Answer : Type 0 where
  refused : ℕ → Answer
  quiet : ℕ → Answer
  signal : ℕ → ℕ → Answer

abbrev pub is_signal : Answer → Bool
is_signal (refused number) = false
is_signal (quiet count) = false
is_signal (signal count mask) = true

-- how many of the zones are in the set
unfoldable pub hits_among : ℕ → List ℕ → ℕ
hits_among zones [] = 0
hits_among zones (z ∷ row) = in_zone_set zones z + hits_among zones row

-- T(k,m,Z) over a row: at least k of its last m zones are in Z; with fewer than m, all count
abbrev pub rule_holds : List ℕ → Rule → Bool
rule_holds row r = leb r.k (hits_among r.zones (take r.m row))

-- the sum of 2^index over the rules that hold
unfoldable pub row_mask : List Rule → List ℕ → ℕ
row_mask rs row = mask_of (map (rule_holds row) rs)

-- a call's answer, and the row after it
pub record Charted : Type 0 where
  pub answer : Answer
  pub row : List ℕ

abbrev pub charted : Answer → List ℕ → Charted
charted a row = record { answer = a; row = row }

-- the row with the call's zone in it: quiet, or signal with the mask and the row emptied
abbrev pub chart_by : ℕ → List ℕ → Charted
chart_by mask row = cond (eqb mask 0) (charted (quiet (length row)) row) (charted (signal (length row) mask) [])

-- one call: 6 for a zone that does not exist, 7 where the row's length is the largest number; a refused call leaves the row as it was
unfoldable pub chart_step : List Rule → List ℕ → ℕ → Charted
chart_step rs row z =
    cond (ltb z zone_count)
    (cond (ltb (length row) max_number) (chart_by (row_mask rs (z ∷ row)) (z ∷ row)) (charted (refused (number_of bad_count)) row))
    (charted (refused (number_of bad_zone)) row)

-- the answers to a list of calls, from a row
unfoldable pub chart_answers : List Rule → List ℕ → List ℕ → List Answer
chart_answers rs row [] = []
chart_answers rs row (z ∷ zs) = (chart_step rs row z).answer ∷ chart_answers rs (chart_step rs row z).row zs
