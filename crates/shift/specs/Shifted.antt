-- TO BELIEVE: what the weights of a shifted core are claimed to be. Definitions.
use Rattle.std.specs.Prelude.{ℕ, ◌+◌, ◌≤◌, ◌<◌, ◌≡◌, ℤ, pos, neg_ℤ, ◌≤ℤ◌, Err, Ok, Result}
use Rattle.rules.specs.declared.refusal.Refusal.{Refusal}
use Rattle.rules.specs.declared.weights.ZoneWeights.{ZoneWeights}
use Rattle.runlength.specs.Scale.{weight_total}
use Rattle.shift.specs.Shift.{area_between}

-- each of the six zones has the area between its two limits, over the integers, where nothing is cut off at 0
pub record SixAreas (s : ℤ) (w : ZoneWeights) : Type 0 where
  pub a1_is : pos w.a1 ≡ area_between s (pos 200) (pos 300)
  pub b1_is : pos w.b1 ≡ area_between s (pos 100) (pos 200)
  pub c1_is : pos w.c1 ≡ area_between s (pos 0) (pos 100)
  pub c2_is : pos w.c2 ≡ area_between s (neg_ℤ (pos 100)) (pos 0)
  pub b2_is : pos w.b2 ≡ area_between s (neg_ℤ (pos 200)) (neg_ℤ (pos 100))
  pub a2_is : pos w.a2 ≡ area_between s (neg_ℤ (pos 300)) (neg_ℤ (pos 200))

-- and none is empty
pub record SixPositive (w : ZoneWeights) : Type 0 where
  pub a1_some : 0 < w.a1
  pub b1_some : 0 < w.b1
  pub c1_some : 0 < w.c1
  pub c2_some : 0 < w.c2
  pub b2_some : 0 < w.b2
  pub a2_some : 0 < w.a2

-- with C0 of no weight, S is what is missing from probability one: with the six it is the whole, so it is not below 0
pub record Whole (w : ZoneWeights) : Type 0 where
  pub c0_none : w.c0 ≡ 0
  pub six_within : w.a1 + w.b1 + w.c1 + w.c2 + w.b2 + w.a2 ≤ weight_total
  pub s_missing : w.s + (w.a1 + w.b1 + w.c1 + w.c2 + w.b2 + w.a2) ≡ weight_total

-- the largest shift with which B1 is no nearer to the mean than C1: they meet at 100 hundredths
abbrev pub near_shift : ℕ
near_shift = 100

-- a zone further from the shifted mean never has the larger weight
pub record FallsOutwards (s : ℤ) (w : ZoneWeights) : Type 0 where
  pub a1_b1 : w.a1 ≤ w.b1
  pub a2_b2 : w.a2 ≤ w.b2
  pub b1_c1 : s ≤ℤ pos near_shift → w.b1 ≤ w.c1
  pub b2_c2 : neg_ℤ (pos near_shift) ≤ℤ s → w.b2 ≤ w.c2

pub record Shifted (s : ℤ) (w : ZoneWeights) : Type 0 where
  pub areas : SixAreas s w
  pub positive : SixPositive w
  pub whole : Whole w
  pub falls : FallsOutwards s w

-- the zones above the centre and those below it, swapped
abbrev pub mirrored : ZoneWeights → ZoneWeights
mirrored w = record { s = w.s; a1 = w.a2; b1 = w.b2; c1 = w.c2; c2 = w.c1; b2 = w.b1; a2 = w.a1; c0 = w.c0 }

abbrev pub mirrored_answer : Result ZoneWeights Refusal → Result ZoneWeights Refusal
mirrored_answer (Ok w) = Ok (mirrored w)
mirrored_answer (Err x) = Err x
