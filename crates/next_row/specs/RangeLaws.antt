-- Laws of a group as a range of the list of sources.
use Rattle.std.specs.Prelude.{◌≡◌, List, ℕ, ◌+◌, ◌-◌, ◌*◌, ◌/◌, ◌%◌, ◌≤◌, ◌<◌, length}
use Rattle.std.proofs.Math.Path.{ap}
use Rattle.std.proofs.Common.{◌∙◌, mul-le-mul}
use native.Mathlib.Omega.{arith}
use Rattle.std.proofs.Math.ListN.{get_or}
use Rattle.rules.specs.Bounds.{zone_count}
use Rattle.runlength.specs.Sum.{at}
use Rattle.runlength.specs.Scale.{weight_total, units_per_one}
use Rattle.sources.specs.Sources.{gathered, weighed, come}
use Rattle.sources.specs.SourcesLaws.{gathered_more, gathered_upto}
use Rattle.sources.specs.GroupingLaws.{weighed_more}
use Rattle.next_row.specs.Arrivals.{Flows, Arriving, Arrived}
use Rattle.next_row.specs.Ranges.{units_at, pair_at, CanRead, CanPair, CanGatherRange, Gathered, CanWeighRange, WeighedRange}

-- a source is a state
pub read_in : {us src : List ℕ} {i s : ℕ} → CanRead us src i → s ≡ get_or src i 0 → s < length us
read_in {i = i} p x = omega (arith, p.inside.inside i)

-- the source at i, and that behind it
gathered_pair : (us src : List ℕ) (i : ℕ) → gathered src (at us) (i + 2) ≡ gathered src (at us) i + pair_at us src i
gathered_pair us src i =
    let z : i + 1 + 1 ≡ i + 2 = omega arith in
    omega (arith, gathered_more src (at us) i, gathered_more src (at us) (i + 1), ap (gathered src (at us)) z)

module _ {us src : List ℕ} {b e : ℕ} (p : CanGatherRange us src b e) where
  -- each source of the range can be read, and each two behind each other
  pub gather_read : {i : ℕ} → i < e → CanRead us src i
  gather_read l = record { within = omega (arith, p.within); inside = p.inside }

  pub gather_pair : {i : ℕ} → b ≤ i → i + 1 < e → CanPair us src i
  gather_pair {i} h l = record {
    within = omega (arith, p.within);
    inside = p.inside;
    room = omega (
      arith,
      gathered_pair us src i,
      gathered_upto src (at us) b i h,
      gathered_upto src (at us) (i + 2) e (omega arith),
      p.room,
    );
  }

  -- none, one, and the first two
  pub gather_none : e ≤ b → Gathered us src b e 0
  gather_none h = let z : e ≡ b = omega (arith, p.order) in record { value = omega (arith, ap (gathered src (at us)) z) }

  pub gather_one : {r : ℕ} → b < e → e ≤ b + 1 → r ≡ units_at us src b → Gathered us src b e r
  gather_one h l x =
      let z : e ≡ b + 1 = omega arith in
      record { value = omega (arith, gathered_more src (at us) b, ap (gathered src (at us)) z) }

  pub gather_first : {r i : ℕ} → r ≡ pair_at us src b → i ≡ b + 2 → Gathered us src b i r
  gather_first {r} {i} x z = record { value = omega (arith, gathered_pair us src b, ap (gathered src (at us)) z) }

  -- two sources more
  module _ {i x r : ℕ} (l : i + 1 < e) (y : x ≡ pair_at us src i) (c : Gathered us src b i r) where
    pub gather_two_room : r + x ≤ units_per_one
    gather_two_room =
        omega (arith, gathered_pair us src i, c.value, gathered_upto src (at us) (i + 2) e (omega arith), p.room)

    pub gather_two : Gathered us src b (i + 2) (r + x)
    gather_two = record { value = omega (arith, gathered_pair us src i, c.value) }

  -- the last of an odd number
  module _ {i x r : ℕ} (l : i < e) (y : x ≡ units_at us src i) (c : Gathered us src b i r) where
    pub gather_room : r + x ≤ units_per_one
    gather_room =
        omega (arith, gathered_more src (at us) i, c.value, gathered_upto src (at us) (i + 1) e (omega arith), p.room)

    pub gather_last : e ≤ i + 1 → Gathered us src b e (r + x)
    gather_last o =
        let z : i + 1 ≡ e = omega arith in
        record { value = omega (arith, gathered_more src (at us) i, c.value, ap (gathered src (at us)) z) }

-- at the end of the range all are gathered
pub gather_done : {us src : List ℕ} {b i e r : ℕ} → i ≤ e → e ≤ i → Gathered us src b i r → Gathered us src b e r
gather_done {i = i} {e = e} x y c = let z : i ≡ e = omega arith in rw z at c

-- a product, split at 2^30
split : (s w : ℕ) → s / weight_total * w * weight_total + s % weight_total * w ≡ w * s
split s w = let e : s / weight_total * weight_total + s % weight_total ≡ s = omega arith in omega (arith, ap (λ (x : ℕ). w * x) e)

-- the units of a range times its weight, in two words that fit
module _ {us src : List ℕ} {b e w : ℕ} (p : CanWeighRange us src b e w) {s v : ℕ} (i : v ≡ w) (q : Gathered us src b e s) where
  most : s ≤ units_per_one
  most = omega (arith, q.value, p.gather.room)

  light : v ≤ weight_total
  light = omega (arith, p.light)

  pub weigh_high_range : s / weight_total * v ≤ units_per_one
  weigh_high_range = omega (arith, mul-le-mul {n₁ = s / weight_total} {n₂ = weight_total} {m₂ = weight_total} (omega (arith, most)) light)

  pub weigh_low_range : s % weight_total * v ≤ units_per_one
  weigh_low_range = omega (arith, mul-le-mul {n₁ = s % weight_total} {n₂ = weight_total} {m₂ = weight_total} (omega arith) light)

  pub weigh_done_range : WeighedRange us src b e w (s / weight_total * v) (s % weight_total * v)
  weigh_done_range =
      let z : s ≡ gathered src (at us) e - gathered src (at us) b = omega (arith, q.value) in
      record { value = split s v ∙ ap (λ (x : ℕ). x * s) i ∙ ap (λ (x : ℕ). w * x) z; high_most = weigh_high_range; low_most = weigh_low_range }

-- one group can be weighed, and sends what it weighs
module _ {us src fs ws gs : List ℕ} {n g : ℕ} (p : Flows us src fs ws gs n) (l : g < get_or gs n 0) {b e : ℕ} (x : b ≡ get_or fs g 0) (y : e ≡ get_or fs (g + 1) 0) where
  pub group_can_range : CanWeighRange us src b e (get_or ws g 0)
  group_can_range = record {
    gather = record {
      order = omega (arith, p.order g (g + 1) (omega arith) (omega arith));
      within = omega (arith, p.order (g + 1) (get_or gs n 0) (omega arith) (omega arith), p.within);
      inside = p.inside;
      room = rw (x, y) (p.each g l);
    };
    light = p.light.light g;
  }

  pub group_sends_range : {high low : ℕ} → WeighedRange us src b e (get_or ws g 0) high low
      → high * weight_total + low + weighed src fs ws (at us) g ≡ weighed src fs ws (at us) (g + 1)
  group_sends_range q = omega (arith, rw (x, y) at q.value, weighed_more src fs ws (at us) g)

module _ {us src fs ws gs : List ℕ} (t : ℕ) (p : Flows us src fs ws gs (t + 1)) where
  -- one group more
  module _ {b g first last high low high' low' : ℕ} (l : g < get_or gs (t + 1) 0) (i : b ≡ get_or gs t 0) (x : first ≡ get_or fs g 0) (y : last ≡ get_or fs (g + 1) 0)
      (c : Arriving us src fs ws b g high low) (q : WeighedRange us src first last (get_or ws g 0) high' low') where
    pub arrive_more_range : Arriving us src fs ws b (g + 1) (high + high') (low + low')
    arrive_more_range = record {
      value = omega (arith, c.value, group_sends_range p l x y q);
      high_most = omega (arith, c.high_most, q.high_most);
      low_most = omega (arith, c.low_most, q.low_most);
    }

    pub arrive_high_range : high + high' ≤ zone_count * units_per_one
    arrive_high_range = omega (arith, c.high_most, q.high_most, p.few t (omega arith))

    pub arrive_low_range : low + low' ≤ zone_count * units_per_one
    arrive_low_range = omega (arith, c.low_most, q.low_most, p.few t (omega arith))

-- a state with one group
pub one_come_range : {us src fs ws gs : List ℕ} {n t g b e high low : ℕ} → Flows us src fs ws gs n → t < n → g ≡ get_or gs t 0
    → get_or gs (t + 1) 0 ≡ get_or gs t 0 + 1
    → b ≡ get_or fs g 0 → e ≡ get_or fs (g + 1) 0 → WeighedRange us src b e (get_or ws g 0) high low → Arrived us src fs ws gs t high low
unfolding come
one_come_range {us} {src} {fs} {ws} {gs} {n} {t} {g} p l i o x y q =
    let z : get_or gs (t + 1) 0 ≡ g + 1 = omega arith in
    record {
      value = omega (
        arith,
        group_sends_range p (omega (arith, p.rise (t + 1) n (omega arith) (omega arith))) x y q,
        ap (weighed src fs ws (at us)) z,
        ap (weighed src fs ws (at us)) i,
      );
    }
