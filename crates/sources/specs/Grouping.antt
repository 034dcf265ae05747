-- How the groups are made: a zone's sources, a state's groups, all groups. Working definitions, and what the code that makes them asks and leaves.
use Rattle.std.specs.Prelude.{◌≡◌, List, ℕ, ◌+◌, ◌*◌, ◌≤◌, ◌<◌, eqb, length, get_or}
use Rattle.rules.specs.Bounds.{zone_count, max_states}
use Rattle.runlength.specs.Sum.{sum, only}
use Rattle.runlength.specs.Scale.{weight_total}
use Rattle.sources.specs.Marks.{Moves, MarkedUpTo}
use Rattle.sources.specs.Sources.{gathered, weighed, come, SourcesBelow, Light, Groups, Shape}

-- one unit in each state: sums of it count
abbrev pub one : ℕ → ℕ
one k = 1

-- the units of those of the first s states that zone z leads to t
unfoldable pub arrived : List ℕ → (ℕ → ℕ) → ℕ → ℕ → ℕ → ℕ
arrived m u t z s = sum s (λ k. only (eqb (get_or m (zone_count * k + z) 0) t) (u k))

-- what comes into t by the first z zones
unfoldable pub into : List ℕ → ℕ → List ℕ → (ℕ → ℕ) → ℕ → ℕ → ℕ
into m n w u t z = sum z (λ y. get_or w y 0 * arrived m u t y n)

-- how many moves lead to t by the first z zones
unfoldable pub counted : List ℕ → ℕ → ℕ → ℕ → ℕ
counted m n t z = sum z (λ y. arrived m one t y n)

-- places before b stand as before
pub record KeptBelow (b : ℕ) (l l' : List ℕ) : Type 0 where
  pub same : length l' ≡ length l
  pub kept : (k : ℕ) → k < b → get_or l' k 0 ≡ get_or l k 0

pub record CanTake (src : List ℕ) (e s entry t : ℕ) : Type 0 where
  pub room : entry ≡ t → e < length src
  pub state : s < max_states

pub record Taken (src : List ℕ) (e s entry t : ℕ) (src' : List ℕ) (r : ℕ) : Type 0 where
  pub kept : KeptBelow e src src'
  pub order : e ≤ r
  pub inside : (n : ℕ) → s < n → SourcesBelow src n → SourcesBelow src' n
  pub sums : (u : ℕ → ℕ) → gathered src' u r ≡ gathered src u e + only (eqb entry t) (u s)

pub record CanCollect (m : List ℕ) (n z t : ℕ) (src : List ℕ) (b : ℕ) : Type 0 where
  pub moves : Moves m n
  pub zone : z < zone_count
  pub inside : SourcesBelow src n
  pub room : b + arrived m one t z n ≤ length src

-- the first s states are looked at, and the sources from b end at e
pub record Collected (m : List ℕ) (n z t s : ℕ) (src : List ℕ) (b : ℕ) (src' : List ℕ) (e : ℕ) : Type 0 where
  pub kept : KeptBelow b src src'
  pub order : b ≤ e
  pub inside : SourcesBelow src' n
  pub sums : (u : ℕ → ℕ) → gathered src' u e ≡ gathered src u b + arrived m u t z s

-- room for one group more, in every list
pub record CanZone (m : List ℕ) (n z a t : ℕ) (ms src fs ws : List ℕ) (g : ℕ) : Type 0 where
  pub target : t < n
  pub marked : MarkedUpTo m n (zone_count * n) ms
  pub moves : Moves m n
  pub zone : z < zone_count
  pub light : a ≤ weight_total
  pub groups : Groups src fs ws n g
  pub firsts : g + 1 < length fs
  pub shares : g < length ws
  pub room : get_or fs g 0 + arrived m one t z n ≤ length src
  pub size : length src ≤ zone_count * max_states

-- the lists are as long as before, and the first g groups send what they did
pub record Grown (src fs ws : List ℕ) (n g : ℕ) (src' fs' ws' : List ℕ) (r : ℕ) : Type 0 where
  pub groups : Groups src' fs' ws' n r
  pub same_src : length src' ≡ length src
  pub same_fs : length fs' ≡ length fs
  pub same_ws : length ws' ≡ length ws
  pub least : g ≤ r
  pub begin : get_or fs' 0 0 ≡ get_or fs 0 0
  pub kept : (k : ℕ) → k ≤ g → (u : ℕ → ℕ) → weighed src' fs' ws' u k ≡ weighed src fs ws u k

pub record ZoneGrouped (m : List ℕ) (n z a t : ℕ) (src fs ws : List ℕ) (g : ℕ) (src' fs' ws' : List ℕ) (r : ℕ) : Type 0 where
  pub grown : Grown src fs ws n g src' fs' ws' r
  pub few : r ≤ g + 1
  pub sums : (u : ℕ → ℕ) → weighed src' fs' ws' u r ≡ weighed src fs ws u g + a * arrived m u t z n
  pub end : get_or fs' r 0 ≤ get_or fs g 0 + arrived m one t z n

-- room for a group by each zone
pub record CanGroupState (m : List ℕ) (n : ℕ) (w : List ℕ) (t : ℕ) (ms src fs ws : List ℕ) (g : ℕ) : Type 0 where
  pub target : t < n
  pub marked : MarkedUpTo m n (zone_count * n) ms
  pub moves : Moves m n
  pub zones : zone_count ≤ length w
  pub light : (z : ℕ) → z < zone_count → get_or w z 0 ≤ weight_total
  pub groups : Groups src fs ws n g
  pub firsts : g + zone_count < length fs
  pub shares : g + zone_count ≤ length ws
  pub room : get_or fs g 0 + counted m n t zone_count ≤ length src
  pub size : length src ≤ zone_count * max_states

-- the groups of t by the first z zones stand
pub record GroupingState (m : List ℕ) (n : ℕ) (w : List ℕ) (t z : ℕ) (src fs ws : List ℕ) (g : ℕ) (src' fs' ws' : List ℕ) (r : ℕ) : Type 0 where
  pub grown : Grown src fs ws n g src' fs' ws' r
  pub few : r ≤ g + z
  pub sums : (u : ℕ → ℕ) → weighed src' fs' ws' u r ≡ weighed src fs ws u g + into m n w u t z
  pub end : get_or fs' r 0 ≤ get_or fs g 0 + counted m n t z

abbrev pub GroupedState : List ℕ → ℕ → List ℕ → ℕ → List ℕ → List ℕ → List ℕ → ℕ → List ℕ → List ℕ → List ℕ → ℕ → Type 0
GroupedState m n w t src fs ws g src' fs' ws' r = GroupingState m n w t zone_count src fs ws g src' fs' ws' r

pub record CanList (m : List ℕ) (n : ℕ) (w src fs ws gs : List ℕ) : Type 0 where
  pub moves : Moves m n
  pub zones : zone_count ≤ length w
  pub light : (z : ℕ) → z < zone_count → get_or w z 0 ≤ weight_total
  pub sources : zone_count * n ≤ length src
  pub firsts : zone_count * n < length fs
  pub shares : zone_count * n ≤ length ws
  pub room : n < length gs
  pub size : length src ≤ zone_count * max_states
  pub inside : SourcesBelow src n
  pub light_shares : Light ws
  pub first : get_or fs 0 0 ≡ 0
  pub start : get_or gs 0 0 ≡ 0

-- the groups of the first t states: what they send is what comes into each by its zones
pub record Listing (m : List ℕ) (n : ℕ) (w src fs ws gs : List ℕ) (t : ℕ) : Type 0 where
  pub shape : Shape src fs ws gs n t
  pub sums : (k : ℕ) → k < t → (u : ℕ → ℕ) → come src fs ws gs u k ≡ into m n w u k zone_count
  pub most : get_or gs t 0 ≤ zone_count * t
  pub end : get_or fs (get_or gs t 0) 0 ≤ sum t (λ k. counted m n k zone_count)
