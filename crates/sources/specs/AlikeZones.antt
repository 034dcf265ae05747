-- Zones that lead every state to the same place. Working definitions, and what the code that joins their weights asks and leaves.
use Rattle.std.specs.Prelude.{◌≡◌, Bool, true, List, ℕ, ◌+◌, ◌*◌, ◌≤◌, ◌<◌, length, get_or}
use Rattle.rules.specs.Bounds.{zone_count}
use Rattle.runlength.specs.Sum.{sum, at}
use Rattle.runlength.specs.Scale.{weight_total}
use Rattle.sources.specs.Marks.{Moves}
use Rattle.sources.specs.Grouping.{into}

pub record CanCompare (m : List ℕ) (n a b : ℕ) : Type 0 where
  pub moves : Moves m n
  pub one : a < zone_count
  pub other : b < zone_count

pub record AlikeZones (m : List ℕ) (n a b : ℕ) : Type 0 where
  pub within : a ≤ b
  pub same : (s : ℕ) → s < n → get_or m (zone_count * s + a) 0 ≡ get_or m (zone_count * s + b) 0

pub record AlikeIf (m : List ℕ) (n a b : ℕ) (r : Bool) : Type 0 where
  pub same : r ≡ true → (s : ℕ) → s < n → get_or m (zone_count * s + a) 0 ≡ get_or m (zone_count * s + b) 0

pub record CanFind (m : List ℕ) (n z : ℕ) : Type 0 where
  pub moves : Moves m n
  pub zone : z < zone_count

pub record CanJoin (m : List ℕ) (n : ℕ) (w j : List ℕ) : Type 0 where
  pub moves : Moves m n
  pub zones : zone_count ≤ length w
  pub weights : sum zone_count (at w) ≡ weight_total
  pub room : length j ≡ zone_count
  pub none : (z : ℕ) → get_or j z 0 ≡ 0

-- the first z weights are joined
pub record Joining (m : List ℕ) (n : ℕ) (w : List ℕ) (z : ℕ) (j : List ℕ) : Type 0 where
  pub room : length j ≡ zone_count
  pub total : sum zone_count (at j) ≡ sum z (at w)
  pub sums : (u : ℕ → ℕ) (t : ℕ) → into m n j u t zone_count ≡ into m n w u t z

abbrev pub Joined : List ℕ → ℕ → List ℕ → List ℕ → Type 0
Joined m n w j = Joining m n w zone_count j
