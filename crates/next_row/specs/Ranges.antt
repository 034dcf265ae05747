-- A group as a range of the list of sources, by offsets. Definitions.
use Rattle.std.specs.Prelude.{◌≡◌, List, ℕ, ◌+◌, ◌-◌, ◌*◌, ◌≤◌, ◌<◌, length, get_or}
use Rattle.runlength.specs.Sum.{at}
use Rattle.runlength.specs.Scale.{weight_total, units_per_one}
use Rattle.sources.specs.Sources.{gathered, SourcesBelow}

-- the units of the source at i
abbrev pub units_at : List ℕ → List ℕ → ℕ → ℕ
units_at us src i = get_or us (get_or src i 0) 0

-- and of the next too
abbrev pub pair_at : List ℕ → List ℕ → ℕ → ℕ
pair_at us src i = units_at us src i + units_at us src (i + 1)

-- one source, and two behind each other, can be read
pub record CanRead (us src : List ℕ) (i : ℕ) : Type 0 where
  pub within : i < length src
  pub inside : SourcesBelow src (length us)

pub record CanPair (us src : List ℕ) (i : ℕ) : Type 0 where
  pub within : i + 1 < length src
  pub inside : SourcesBelow src (length us)
  pub room : pair_at us src i ≤ units_per_one

-- the sources from b to before e are states, and hold no more than probability one
pub record CanGatherRange (us src : List ℕ) (b e : ℕ) : Type 0 where
  pub order : b ≤ e
  pub within : e ≤ length src
  pub inside : SourcesBelow src (length us)
  pub room : gathered src (at us) e ≤ gathered src (at us) b + units_per_one

-- r is the sum of the units of the sources from b to before e
pub record Gathered (us src : List ℕ) (b e r : ℕ) : Type 0 where
  pub value : r + gathered src (at us) b ≡ gathered src (at us) e

-- and their weight is no more than all of it
pub record CanWeighRange (us src : List ℕ) (b e w : ℕ) : Type 0 where
  pub gather : CanGatherRange us src b e
  pub light : w ≤ weight_total

-- high * 2^30 + low is w times that sum
pub record WeighedRange (us src : List ℕ) (b e w high low : ℕ) : Type 0 where
  pub value : high * weight_total + low ≡ w * (gathered src (at us) e - gathered src (at us) b)
  pub high_most : high ≤ units_per_one
  pub low_most : low ≤ units_per_one
