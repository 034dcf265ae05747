-- The numbering over three lists. Definitions.
use Rattle.std.specs.Prelude.{ℕ, ◌+◌, ◌*◌, ◌/◌, ◌%◌, ◌≤◌, ◌<◌, ◌≡◌, List, length}
use Rattle.rules.specs.Bounds.{zone_count, max_states}
use Rattle.runlength.specs.Sum.{at}
use Rattle.runlength.specs.Merged.{lead_before}
use Rattle.merge.specs.Rounds.{label_of}
use Rattle.merge.specs.Numbering.{Led}

-- the first i states have their classes, and the classes so far, `count` of them, their first states
pub record Numbered (leaders classes firsts : List ℕ) (i count : ℕ) : Type 0 where
  pub counted : count ≡ lead_before (at leaders) i
  pub class_is : (s : ℕ) → s < i → at classes s ≡ lead_before (at leaders) (at leaders s)
  pub first_is : (s : ℕ) → s < i → at leaders s ≡ s → at firsts (lead_before (at leaders) s) ≡ s

-- what numbering n states asks for
pub record Numberable (n : ℕ) (leaders classes firsts : List ℕ) : Type 0 where
  pub few : n ≤ max_states
  pub led : (i : ℕ) → i < n → Led leaders i
  pub leaders_room : n ≤ length leaders
  pub classes_room : n ≤ length classes
  pub firsts_room : n ≤ length firsts

-- what numbering one more asks for
pub record CanNumber (leaders classes firsts : List ℕ) (i count : ℕ) : Type 0 where
  pub few : i < max_states
  pub led : Led leaders i
  pub leaders_room : i < length leaders
  pub classes_room : i < length classes
  pub firsts_room : i < length firsts
  pub so_far : Numbered leaders classes firsts i count

-- an entry of the merged moves: of the first state of its class, the class of the state that it leads to, or `max_states` for a signal
abbrev pub carried : ℕ → List ℕ → List ℕ → List ℕ → ℕ → ℕ
carried n m classes firsts k = label_of n classes (at m (zone_count * at firsts (k / zone_count) + k % zone_count))

-- what carrying the moves over asks for
pub record CanCarry (n : ℕ) (m classes firsts merged : List ℕ) (count : ℕ) : Type 0 where
  pub few : n ≤ max_states
  pub fewer : count ≤ n
  pub first_below : (c : ℕ) → c < count → at firsts c < n
  pub moves_room : zone_count * n ≤ length m
  pub classes_room : n ≤ length classes
  pub firsts_room : n ≤ length firsts
  pub merged_room : zone_count * n ≤ length merged
