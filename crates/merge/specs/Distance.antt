-- A round written over a list, with the distance that the leaders moved. Definitions.
use Rattle.std.specs.Prelude.{ℕ, ◌-◌, ◌*◌, ◌≤◌, ◌<◌, ◌≡◌, List, length}
use Rattle.rules.specs.Bounds.{zone_count, max_states}
use Rattle.runlength.specs.Sum.{at, sum, front}
use Rattle.merge.specs.Rounds.{next_leader, Skips}

module _ (n : ℕ) (m leaders : List ℕ) where
  -- room for the n states, their moves and leaders
  pub record HasRoomFor : Type 0 where
    pub few : n ≤ max_states
    pub moves : zone_count * n ≤ length m
    pub room : n ≤ length leaders

-- what a round asks for: room, leaders that skip none, and room for the next leaders
pub record Refinable (n : ℕ) (m leaders next : List ℕ) : Type 0 where
  pub has_room : HasRoomFor n m leaders
  pub next_room : n ≤ length next
  pub skips : (i : ℕ) → i < n → Skips n m leaders i
  pub later : (i : ℕ) → i < n → (at leaders i ≤ next_leader n m leaders i) × (next_leader n m leaders i ≤ i)

-- what a round has done with the first i states: their next leaders are written, the places beyond kept, and how far they have moved is summed
pub record Refined (n : ℕ) (m leaders before next : List ℕ) (i moved : ℕ) : Type 0 where
  pub written : next ≡ front i (next_leader n m leaders) before
  pub distance : moved ≡ sum i (λ s. next_leader n m leaders s - at leaders s)
  pub same_room : length next ≡ length before
  pub most : moved ≤ max_states * i
