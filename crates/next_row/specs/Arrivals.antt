-- What comes into a state in one point. Working definitions, and what the code that adds and multiplies asks and leaves.
use Rattle.std.specs.Prelude.{◌≡◌, List, ℕ, ◌+◌, ◌*◌, ◌≤◌, ◌<◌, length, get_or, sum_by}
use Rattle.rules.specs.Bounds.{zone_count, max_states}
use Rattle.runlength.specs.Sum.{sum, at}
use Rattle.runlength.specs.Scale.{weight_total, units_per_one}
use Rattle.sources.specs.Sources.{gathered, weighed, come, SourcesBelow, Light}

-- the sources of a group are states, and hold no more than probability one
pub record CanGather (us grp : List ℕ) : Type 0 where
  pub inside : SourcesBelow grp (length us)
  pub room : sum_by (at us) grp ≤ units_per_one

pub record CanWeigh (us grp : List ℕ) (w : ℕ) : Type 0 where
  pub gather : CanGather us grp
  pub light : w ≤ weight_total

-- high * 2^30 + low is w times the units of the group's sources
pub record Weighed (us grp : List ℕ) (w high low : ℕ) : Type 0 where
  pub value : high * weight_total + low ≡ w * sum_by (at us) grp
  pub high_most : high ≤ units_per_one
  pub low_most : low ≤ units_per_one

-- the groups of n states with the units us: no group gathers more than probability one, and no more than that comes in at all
pub record Flows (us src fs ws gs : List ℕ) (n : ℕ) : Type 0 where
  pub inside : SourcesBelow src (length us)
  pub light : Light ws
  pub order : (i j : ℕ) → i ≤ j → j ≤ get_or gs n 0 → get_or fs i 0 ≤ get_or fs j 0
  pub within : get_or fs (get_or gs n 0) 0 ≤ length src
  pub firsts : get_or gs n 0 < length fs
  pub shares : get_or gs n 0 ≤ length ws
  pub each : (i : ℕ) → i < get_or gs n 0 → gathered src (at us) (get_or fs (i + 1) 0) ≤ gathered src (at us) (get_or fs i 0) + units_per_one
  pub room : n < length gs
  pub rise : (j k : ℕ) → j ≤ k → k ≤ n → get_or gs j 0 ≤ get_or gs k 0
  pub few : (k : ℕ) → k < n → get_or gs (k + 1) 0 ≤ get_or gs k 0 + zone_count
  pub mass : sum n (come src fs ws gs (at us)) ≤ units_per_one * weight_total
  pub size : n ≤ max_states

-- high * 2^30 + low is what the groups from b to before e send
pub record Arriving (us src fs ws : List ℕ) (b e high low : ℕ) : Type 0 where
  pub value : high * weight_total + low + weighed src fs ws (at us) b ≡ weighed src fs ws (at us) e
  pub high_most : high + b * units_per_one ≤ e * units_per_one
  pub low_most : low + b * units_per_one ≤ e * units_per_one

-- high * 2^30 + low is what comes into t
pub record Arrived (us src fs ws gs : List ℕ) (t high low : ℕ) : Type 0 where
  pub value : high * weight_total + low ≡ come src fs ws gs (at us) t
