-- The numbers of the classes, by the list of the leaders: what stands in the lists after the first so many states. Working definitions.
use Rattle.std.specs.Prelude.{ℕ, ◌+◌, ◌*◌, ◌/◌, ◌%◌, ◌≤◌, ◌<◌, ◌≡◌, List, length}
use Rattle.rules.specs.Bounds.{zone_count, max_states}
use Rattle.runlength.specs.Sum.{at}
use Rattle.runlength.specs.Merged.{lead_before}
use Rattle.merge.specs.declared.classes.Classes.{Classes}
use Rattle.merge.specs.Rounds.{label_of}

-- a state's leader is not after it, and leads
pub record Led (leaders : List ℕ) (i : ℕ) : Type 0 where
  pub most : at leaders i ≤ i
  pub leads : at leaders (at leaders i) ≡ at leaders i

-- the first i states have their classes, and the classes so far their first states
pub record Numbered (leaders : List ℕ) (c : Classes) (i : ℕ) : Type 0 where
  pub fewer : c.count ≤ i
  pub counted : c.count ≡ lead_before (at leaders) i
  pub class_is : (s : ℕ) → s < i → at c.of_states s ≡ lead_before (at leaders) (at leaders s)
  pub first_is : (s : ℕ) → s < i → at leaders s ≡ s → at c.firsts (lead_before (at leaders) s) ≡ s

-- what numbering the states asks for
pub record Numberable (leaders : List ℕ) : Type 0 where
  pub few : length leaders ≤ max_states
  pub led : (i : ℕ) → i < length leaders → Led leaders i

-- what numbering one more asks for
pub record CanNumber (leaders : List ℕ) (c : Classes) (i : ℕ) : Type 0 where
  pub few : i < max_states
  pub led : Led leaders i
  pub leaders_room : i < length leaders
  pub so_far : Numbered leaders c i

-- an entry of the merged moves: of the first state of its class, the class of the state that it leads to, or `max_states` for a signal
abbrev pub carried : ℕ → List ℕ → Classes → ℕ → ℕ
carried n m c k = label_of n c.of_states (at m (zone_count * at c.firsts (k / zone_count) + k % zone_count))

-- what carrying the moves over asks for
pub record CanCarry (n : ℕ) (m : List ℕ) (c : Classes) (merged : List ℕ) : Type 0 where
  pub few : n ≤ max_states
  pub fewer : c.count ≤ n
  pub first_below : (i : ℕ) → i < c.count → at c.firsts i < n
  pub moves_room : zone_count * n ≤ length m
  pub merged_room : zone_count * n ≤ length merged
