-- Where the units of a row come from: each state has groups, a group being the states that one zone leads to it, with the zone's weight as
-- their share. What the lists of groups are to the rows. Working definitions. Sums are of EVERY assignment u of units to the states.
use Rattle.std.specs.Prelude.{◌≡◌, List, ℕ, ◌+◌, ◌-◌, ◌*◌, ◌≤◌, ◌<◌, length, get_or, replicate}
use Rattle.rules.specs.Bounds.{zone_count, max_states}
use Rattle.runlength.specs.Sum.{sum, at}
use Rattle.runlength.specs.Scale.{weight_total}
use Rattle.runlength.specs.Chain.{inflow}
use Rattle.runlength.specs.Listed.{listed_chain}
use Rattle.sources.specs.Stops.{Stops}

-- the units of the first e sources
unfoldable pub gathered : List ℕ → (ℕ → ℕ) → ℕ → ℕ
gathered src u e = sum e (λ j. u (get_or src j 0))

-- what the first g groups send: the sources of group i stand from the i-th of the firsts to before the next
unfoldable pub weighed : List ℕ → List ℕ → List ℕ → (ℕ → ℕ) → ℕ → ℕ
weighed src fs ws u g = sum g (λ i. get_or ws i 0 * (gathered src u (get_or fs (i + 1) 0) - gathered src u (get_or fs i 0)))

-- what the groups of state t send: those from the t-th place of gs to before the next
unfoldable pub come : List ℕ → List ℕ → List ℕ → List ℕ → (ℕ → ℕ) → ℕ → ℕ
come src fs ws gs u t = weighed src fs ws u (get_or gs (t + 1) 0) - weighed src fs ws u (get_or gs t 0)

-- every source is one of the n states
pub record SourcesBelow (src : List ℕ) (n : ℕ) : Type 0 where
  pub inside : (k : ℕ) → get_or src k 0 < n

-- no share is over all weights
pub record Light (ws : List ℕ) : Type 0 where
  pub light : (i : ℕ) → get_or ws i 0 ≤ weight_total

-- c groups, none of which gathers more than there is
pub record Groups (src fs ws : List ℕ) (n c : ℕ) : Type 0 where
  pub inside : SourcesBelow src n
  pub light : Light ws
  pub ordered : (i j : ℕ) → i ≤ j → j ≤ c → get_or fs i 0 ≤ get_or fs j 0
  pub within : get_or fs c 0 ≤ length src
  pub each : (i : ℕ) → i < c → (u : ℕ → ℕ) → gathered src u (get_or fs (i + 1) 0) ≤ gathered src u (get_or fs i 0) + sum n u
  pub firsts : c < length fs
  pub shares : c ≤ length ws

-- the groups of the first t states
pub record Shape (src fs ws gs : List ℕ) (n t : ℕ) : Type 0 where
  pub groups : Groups src fs ws n (get_or gs t 0)
  pub room : t < length gs
  pub ordered : (j k : ℕ) → j ≤ k → k ≤ t → get_or gs j 0 ≤ get_or gs k 0
  pub few : (k : ℕ) → k < t → get_or gs (k + 1) 0 ≤ get_or gs k 0 + zone_count
  pub begin : (get_or fs 0 0 ≡ 0) × (get_or gs 0 0 ≡ 0)

-- lists of no sources
pub record NoSources (src fs ws gs st : List ℕ) : Type 0 where
  pub sources : src ≡ replicate (zone_count * max_states) 0
  pub firsts : fs ≡ replicate (zone_count * max_states + 1) 0
  pub shares : ws ≡ replicate (zone_count * max_states) 0
  pub groups : gs ≡ replicate (max_states + 1) 0
  pub stops : st ≡ replicate (max_states + 1) 0

-- the lists as they are lent to the rows: each the one it was
pub record Lent (src fs ws gs st src' fs' ws' gs' st' : List ℕ) : Type 0 where
  pub sources : src' ≡ src
  pub firsts : fs' ≡ fs
  pub shares : ws' ≡ ws
  pub groups : gs' ≡ gs
  pub stops : st' ≡ st

-- the lists as they are lent to be filled: all 0, with room for the most states
pub record CanListSources (m : List ℕ) (n : ℕ) (w src fs ws gs st : List ℕ) : Type 0 where
  pub some : 0 < n
  pub most : n ≤ max_states
  pub many : zone_count * n ≤ length m
  pub zones : zone_count ≤ length w
  pub total : sum zone_count (at w) ≡ weight_total
  pub sources : src ≡ replicate (zone_count * max_states) 0
  pub firsts : fs ≡ replicate (zone_count * max_states + 1) 0
  pub shares : ws ≡ replicate (zone_count * max_states) 0
  pub groups : gs ≡ replicate (max_states + 1) 0
  pub stops : st ≡ replicate (max_states + 1) 0

-- the lists as they are left: what the groups of a state send is what the moves lead to it
pub record SourcesListed (m : List ℕ) (n : ℕ) (w src fs ws gs st : List ℕ) : Type 0 where
  pub shape : Shape src fs ws gs n n
  pub stops : Stops gs n 0 st
  pub sums : (t : ℕ) → t < n → (u : ℕ → ℕ) → come src fs ws gs u t ≡ inflow (listed_chain zone_count n m (at w)) u t
