-- Laws of what comes into a state.
use Rattle.std.specs.Prelude.{◌≡◌, List, ◌∷◌, [], ℕ, zero, suc, ◌+◌, ◌-◌, ◌*◌, ◌/◌, ◌%◌, ◌≤◌, ◌<◌, length, take, drop, sum_by, slice_range}
use Rattle.std.proofs.Math.Path.{sym, ap}
use Rattle.std.proofs.Common.{◌∙◌, mul-le-mul}
use native.Mathlib.Omega.{arith}
use Rattle.std.proofs.Math.Seq.{take-suc, take-add}
use Rattle.std.proofs.lemmas.List.{get_or-take, get_or-drop, get_or_past, length-take}
use Rattle.std.proofs.Math.Decide.{dec_lt}
use Rattle.std.proofs.lemmas.List.Sums.{sum_by-append, sum_by-take-le, sum_by-take-drop}
use Rattle.std.proofs.Math.ListN.{get_or}
use Rattle.rules.specs.Bounds.{zone_count}
use Rattle.runlength.specs.Sum.{at}
use Rattle.runlength.specs.SumLaws.{sum_zero, sum_upto}
use Rattle.runlength.specs.Scale.{weight_total, units_per_one}
use Rattle.sources.specs.Sources.{gathered, weighed, come, SourcesBelow}
use Rattle.sources.specs.SourcesLaws.{gathered_more}
use Rattle.sources.specs.GroupingLaws.{weighed_more}
use Rattle.next_row.specs.Arrivals.{CanGather, CanWeigh, Weighed, Flows, Arriving, Arrived}

-- the units of the first sources, as a sum over a list of them
gathered_take : (src : List ℕ) (u : ℕ → ℕ) (k : ℕ) → k ≤ length src → gathered src u k ≡ sum_by u (take k src)
unfolding gathered
gathered_take src u zero h = sum_zero _
gathered_take src u (suc k) h =
    let z : k + 1 ≡ suc k = omega arith in
    omega (
      arith,
      gathered_take src u k (omega arith),
      gathered_more src u k,
      ap (gathered src u) z,
      ap (sum_by u) (take-suc src k 0 h),
      sum_by-append u (take k src) (get_or src k 0 ∷ []),
    )

-- and of those from b to before e
gathered_range : (src : List ℕ) (u : ℕ → ℕ) (b e : ℕ) → b ≤ e → e ≤ length src → sum_by u (slice_range src b e) + gathered src u b ≡ gathered src u e
gathered_range src u b e h l =
    let z : b + (e - b) ≡ e = omega arith in
    omega (
      arith,
      gathered_take src u b (omega arith),
      gathered_take src u e l,
      ap (sum_by u) (ap (λ (k : ℕ). take k src) (sym z) ∙ take-add b (e - b) src),
      sum_by-append u (take b src) (take (e - b) (drop b src)),
    )

-- sources of a part of the list
below_range : {src : List ℕ} {n : ℕ} → SourcesBelow src n → (b e : ℕ) → SourcesBelow (slice_range src b e) n
below_range {src} {n} p b e = record {
  inside = λ k. elim (dec_lt k (e - b)) [
    | yes h ↦ rw (get_or-take (e - b) (drop b src) k 0 h, get_or-drop b src k 0) (p.inside (b + k))
    | no h ↦ rw (get_or_past (take (e - b) (drop b src)) k 0 (omega (arith, length-take (e - b) (drop b src)))) (omega (arith, p.inside 0))
  ];
}

-- a group without its first two sources
pub gather_rest : {us grp : List ℕ} → CanGather us grp → CanGather us (take (length grp - 2) (drop 2 grp))
gather_rest {us} {grp} p = record {
  inside = below_range p.inside 2 (length grp);
  room = omega (arith, sum_by-take-le (at us) (drop 2 grp) (length grp - 2), sum_by-take-drop (at us) grp 2, p.room);
}

-- a product, split at 2^30
split : (s w : ℕ) → s / weight_total * w * weight_total + s % weight_total * w ≡ w * s
split s w = let e : s / weight_total * weight_total + s % weight_total ≡ s = omega arith in omega (arith, ap (λ (x : ℕ). w * x) e)

module _ {us grp : List ℕ} {w : ℕ} (p : CanWeigh us grp w) {s v : ℕ} (i : v ≡ w) (q : s ≡ sum_by (at us) grp) where
  most : s ≤ units_per_one
  most = omega (arith, p.gather.room)

  light : v ≤ weight_total
  light = omega (arith, p.light)

  pub weigh_high : s / weight_total * v ≤ units_per_one
  weigh_high = omega (arith, mul-le-mul {n₁ = s / weight_total} {n₂ = weight_total} {m₂ = weight_total} (omega (arith, most)) light)

  pub weigh_low : s % weight_total * v ≤ units_per_one
  weigh_low = omega (arith, mul-le-mul {n₁ = s % weight_total} {n₂ = weight_total} {m₂ = weight_total} (omega arith) light)

  pub weigh_done : Weighed us grp w (s / weight_total * v) (s % weight_total * v)
  weigh_done =
      record { value = split s v ∙ ap (λ (x : ℕ). x * s) i ∙ ap (λ (x : ℕ). w * x) q; high_most = weigh_high; low_most = weigh_low }

-- fewer states
pub flows_upto : {us src fs ws gs : List ℕ} {n t : ℕ} → Flows us src fs ws gs n → t ≤ n → Flows us src fs ws gs t
flows_upto {us} {src} {fs} {ws} {gs} {n} {t} p h =
    let g : get_or gs t 0 ≤ get_or gs n 0 = p.rise t n h (omega arith) in
    record {
      inside = p.inside;
      light = p.light;
      order = λ i j x y. p.order i j x (omega arith);
      within = omega (arith, p.order (get_or gs t 0) (get_or gs n 0) g (omega arith), p.within);
      firsts = omega (arith, p.firsts);
      shares = omega (arith, p.shares);
      each = λ i x. p.each i (omega arith);
      room = omega (arith, p.room);
      rise = λ j k x y. p.rise j k x (omega arith);
      few = λ k x. p.few k (omega arith);
      mass = omega (arith, sum_upto t n (come src fs ws gs (at us)) h, p.mass);
      size = omega (arith, p.size);
    }

-- one group
module _ {us src fs ws gs : List ℕ} {n g : ℕ} (p : Flows us src fs ws gs n) (l : g < get_or gs n 0) {b e : ℕ} (x : b ≡ get_or fs g 0) (y : e ≡ get_or fs (g + 1) 0) where
  order : b ≤ e
  order = omega (arith, p.order g (g + 1) (omega arith) (omega arith))

  within : e ≤ length src
  within = omega (arith, p.order (g + 1) (get_or gs n 0) (omega arith) (omega arith), p.within)

  pub group_can : CanWeigh us (slice_range src b e) (get_or ws g 0)
  group_can = record {
    gather = record { inside = below_range p.inside b e; room = let z : gathered src (at us) e ≤ gathered src (at us) b + units_per_one = rw (x, y) (p.each g l) in omega (arith, gathered_range src (at us) b e order within) };
    light = p.light.light g;
  }

  pub group_sends : {high low : ℕ} → Weighed us (slice_range src b e) (get_or ws g 0) high low
      → high * weight_total + low + weighed src fs ws (at us) g ≡ weighed src fs ws (at us) (g + 1)
  group_sends q =
      let z : sum_by (at us) (slice_range src b e) ≡ gathered src (at us) e - gathered src (at us) b = omega (arith, gathered_range src (at us) b e order within) in
      omega (arith, rw (z, x, y) at q.value, weighed_more src fs ws (at us) g)

module _ {us src fs ws gs : List ℕ} (t : ℕ) (p : Flows us src fs ws gs (t + 1)) where
  -- no group so far
  pub arrive_start : {g : ℕ} → g ≡ get_or gs t 0 → Arriving us src fs ws (get_or gs t 0) g 0 0
  arrive_start e = rw e (record { value = omega arith; high_most = omega arith; low_most = omega arith })

  -- both words have room for one group more
  module _ {b g first last high low high' low' : ℕ} (l : g < get_or gs (t + 1) 0) (i : b ≡ get_or gs t 0) (x : first ≡ get_or fs g 0) (y : last ≡ get_or fs (g + 1) 0)
      (c : Arriving us src fs ws b g high low) (q : Weighed us (slice_range src first last) (get_or ws g 0) high' low') where
    pub arrive_high : high + high' ≤ zone_count * units_per_one
    arrive_high = omega (arith, c.high_most, q.high_most, p.few t (omega arith))

    pub arrive_low : low + low' ≤ zone_count * units_per_one
    arrive_low = omega (arith, c.low_most, q.low_most, p.few t (omega arith))

  pub arrive_more : {g first last high low high' low' : ℕ} → g < get_or gs (t + 1) 0 → first ≡ get_or fs g 0 → last ≡ get_or fs (g + 1) 0
      → Arriving us src fs ws (get_or gs t 0) g high low → Weighed us (slice_range src first last) (get_or ws g 0) high' low'
      → Arriving us src fs ws (get_or gs t 0) (g + 1) (high + high') (low + low')
  arrive_more l x y c q = record {
    value = omega (arith, c.value, group_sends p l x y q);
    high_most = omega (arith, c.high_most, q.high_most);
    low_most = omega (arith, c.low_most, q.low_most);
  }

  pub arrive_done : {g high low : ℕ} → g ≡ get_or gs (t + 1) 0 → Arriving us src fs ws (get_or gs t 0) g high low → Arrived us src fs ws gs t high low
  unfolding come
  arrive_done z c = record { value = omega (arith, c.value, ap (weighed src fs ws (at us)) z) }

-- a state with one group
pub one_come : {us src fs ws gs : List ℕ} {n t g b e high low : ℕ} → Flows us src fs ws gs n → t < n → g ≡ get_or gs t 0
    → get_or gs (t + 1) 0 ≡ get_or gs t 0 + 1
    → b ≡ get_or fs g 0 → e ≡ get_or fs (g + 1) 0 → Weighed us (slice_range src b e) (get_or ws g 0) high low → Arrived us src fs ws gs t high low
unfolding come
one_come {us} {src} {fs} {ws} {gs} {n} {t} {g} p l i o x y q =
    let z : get_or gs (t + 1) 0 ≡ g + 1 = omega arith in
    record {
      value = omega (
        arith,
        group_sends p (omega (arith, p.rise (t + 1) n (omega arith) (omega arith))) x y q,
        ap (weighed src fs ws (at us)) z,
        ap (weighed src fs ws (at us)) i,
      );
    }
