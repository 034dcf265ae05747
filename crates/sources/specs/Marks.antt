-- Marks of the targets and zones that some move has. Working definitions, and what the code that sets them asks and leaves.
use Rattle.std.specs.Prelude.{◌≡◌, List, ℕ, ◌+◌, ◌*◌, ◌%◌, ◌≤◌, ◌<◌, length, get_or}
use Rattle.rules.specs.Bounds.{zone_count, max_states}

-- the moves of n states
pub record Moves (m : List ℕ) (n : ℕ) : Type 0 where
  pub many : zone_count * n ≤ length m
  pub most : n ≤ max_states

pub record CanSet (ms : List ℕ) (z n : ℕ) : Type 0 where
  pub zone : z < zone_count
  pub room : zone_count * n ≤ length ms

pub record Set (ms : List ℕ) (t z n : ℕ) (ms' : List ℕ) : Type 0 where
  pub same : length ms' ≡ length ms
  pub kept : (q : ℕ) → get_or ms q 0 ≡ 1 → get_or ms' q 0 ≡ 1
  pub here : t < n → get_or ms' (zone_count * t + z) 0 ≡ 1

pub record CanMark (m : List ℕ) (n : ℕ) (ms : List ℕ) : Type 0 where
  pub moves : Moves m n
  pub room : zone_count * n ≤ length ms

-- the first k moves have their marks
pub record MarkedUpTo (m : List ℕ) (n k : ℕ) (ms : List ℕ) : Type 0 where
  pub room : zone_count * n ≤ length ms
  pub seen : (j : ℕ) → j < k → get_or m j 0 < n → get_or ms (zone_count * get_or m j 0 + j % zone_count) 0 ≡ 1
