-- Laws of the groups of a state.
use Rattle.std.specs.Prelude.{◌≡◌, refl, List, ℕ, ◌+◌, ◌-◌, ◌*◌, ◌≤◌, ◌<◌, get_or, set}
use Rattle.std.proofs.Common.{ap, ap₂, ◌∙◌, arith, length-set, get_or-set_same, get_or-set_other}
use Rattle.std.proofs.Math.Decide.{dec_lt}
use Rattle.rules.specs.Bounds.{zone_count, max_states}
use Rattle.runlength.specs.Sum.{sum}
use Rattle.runlength.specs.SumLaws.{sum_zero, sum_more, sum_cong, sum_upto}
use Rattle.runlength.specs.Scale.{weight_total}
use Rattle.runlength.specs.SetLaws.{set_below, ordered_set}
use Rattle.sources.specs.Sources.{gathered, weighed, Groups}
use Rattle.sources.specs.Grouping.{one, arrived, into, counted, KeptBelow, CanCollect, Collected, CanZone, Grown, ZoneGrouped, CanGroupState, GroupingState}
use Rattle.sources.specs.SourcesLaws.{gathered_kept, ones, kept_set, arrived_most}
use Rattle.sources.specs.MarksLaws.{unmarked}

pub weighed_more : (src fs ws : List ℕ) (u : ℕ → ℕ) (g : ℕ)
    → weighed src fs ws u (g + 1) ≡ weighed src fs ws u g + get_or ws g 0 * (gathered src u (get_or fs (g + 1) 0) - gathered src u (get_or fs g 0))
unfolding weighed
weighed_more src fs ws u g = sum_more g _

-- groups before g alone count: their shares, their firsts to g, and the sources before the g-th first
weighed_kept : {src fs ws src' fs' ws' : List ℕ} {n g : ℕ} → Groups src fs ws n g → KeptBelow (get_or fs g 0) src src' → KeptBelow (g + 1) fs fs'
    → KeptBelow g ws ws'
    → (k : ℕ) → k ≤ g → (u : ℕ → ℕ) → weighed src' fs' ws' u k ≡ weighed src fs ws u k
unfolding weighed
weighed_kept {src} {fs} {ws} {src'} {fs'} {ws'} {n} {g} p a b c k l u =
    sum_cong k
    (λ i. get_or ws' i 0 * (gathered src' u (get_or fs' (i + 1) 0) - gathered src' u (get_or fs' i 0)))
    (λ i. get_or ws i 0 * (gathered src u (get_or fs (i + 1) 0) - gathered src u (get_or fs i 0)))
    (λ i h. ap₂ (λ x y. x * y) (c.kept i (omega arith))
    (ap₂ (λ x y. x - y)
    (rw (b.kept (i + 1) (omega arith)) (gathered_kept a u (get_or fs (i + 1) 0) (p.ordered (i + 1) g (omega arith) (omega arith))))
    (rw (b.kept i (omega arith)) (gathered_kept a u (get_or fs i 0) (p.ordered i g (omega arith) (omega arith))))))

grown_none : {src fs ws : List ℕ} {n g : ℕ} → Groups src fs ws n g → Grown src fs ws n g src fs ws g
grown_none p =
    record { groups = p; same_src = refl; same_fs = refl; same_ws = refl; least = omega arith; begin = refl; kept = λ k h u. refl }

grown_then : {src fs ws src' fs' ws' src'' fs'' ws'' : List ℕ} {n g r q : ℕ} → Grown src fs ws n g src' fs' ws' r
    → Grown src' fs' ws' n r src'' fs'' ws'' q
    → Grown src fs ws n g src'' fs'' ws'' q
grown_then x y = record {
  groups = y.groups;
  same_src = y.same_src ∙ x.same_src;
  same_fs = y.same_fs ∙ x.same_fs;
  same_ws = y.same_ws ∙ x.same_ws;
  least = omega (arith, x.least, y.least);
  begin = y.begin ∙ x.begin;
  kept = λ k h u. y.kept k (omega (arith, x.least)) u ∙ x.kept k h u;
}

module _ {m : List ℕ} {n z a t : ℕ} {ms src fs ws : List ℕ} {g : ℕ} (p : CanZone m n z a t ms src fs ws g) where
  -- no state leads here
  pub zone_unmarked : {q : ℕ} → q ≡ t → get_or ms (zone_count * q + z) 0 ≡ 0 → ZoneGrouped m n z a t src fs ws g src fs ws g
  zone_unmarked {q} y x = record {
    grown = grown_none p.groups;
    few = omega arith;
    sums = λ u. omega (arith, ap (λ (v : ℕ). a * v) (unmarked p.marked p.target p.zone (rw y at x) u));
    end = omega arith;
  }

  -- a zone of no weight
  pub zone_light : a ≡ 0 → ZoneGrouped m n z a t src fs ws g src fs ws g
  zone_light x = record {
    grown = grown_none p.groups;
    few = omega arith;
    sums = λ u. omega (arith, ap (λ (y : ℕ). y * arrived m u t z n) x);
    end = omega arith;
  }

  -- its sources can be collected
  pub zone_can : {b : ℕ} → b ≡ get_or fs g 0 → CanCollect m n z t src b
  zone_can x = record { moves = p.moves; zone = p.zone; inside = p.groups.inside; room = omega (arith, p.room) }

  module _ {src' : List ℕ} {e : ℕ} (c : Collected m n z t n src (get_or fs g 0) src' e) where
    -- the sources end where they are counted
    zone_end : e ≡ get_or fs g 0 + arrived m one t z n
    zone_end = omega (arith, c.sums one, ones src' e, ones src (get_or fs g 0))

    size_at : e ≤ zone_count * max_states
    size_at = omega (arith, zone_end, p.room, p.size)

    fs_here : get_or (set fs (g + 1) e) (g + 1) 0 ≡ e
    fs_here = get_or-set_same fs (g + 1) e 0 p.firsts

    fs_other : (i : ℕ) → i ≤ g → get_or (set fs (g + 1) e) i 0 ≡ get_or fs i 0
    fs_other i h = get_or-set_other fs (g + 1) i e 0 (omega arith)

    ws_here : get_or (set ws g a) g 0 ≡ a
    ws_here = get_or-set_same ws g a 0 p.shares

    -- what the sources of group i gather
    more_old : (i : ℕ) → i ≤ g → (u : ℕ → ℕ) → gathered src' u (get_or (set fs (g + 1) e) i 0) ≡ gathered src u (get_or fs i 0)
    more_old i h u = rw (fs_other i h) (gathered_kept c.kept u (get_or fs i 0) (p.groups.ordered i g h (omega arith)))

    more_new : (u : ℕ → ℕ) → gathered src' u (get_or (set fs (g + 1) e) (g + 1) 0) ≡ gathered src u (get_or fs g 0) + arrived m u t z n
    more_new u = rw fs_here (c.sums u)

    more_each : (i : ℕ) → i < g + 1 → (u : ℕ → ℕ)
        → gathered src' u (get_or (set fs (g + 1) e) (i + 1) 0) ≤ gathered src' u (get_or (set fs (g + 1) e) i 0) + sum n u
    more_each i h u = elim (dec_lt i g) [
      | yes x ↦ omega (arith, more_old i (omega arith) u, more_old (i + 1) (omega arith) u, p.groups.each i x u)
      | no x ↦ let y : i ≡ g = omega arith in rw y (omega (arith, more_old g (omega arith) u, more_new u, arrived_most m u t z n))
    ]

    more_kept : (k : ℕ) → k ≤ g → (u : ℕ → ℕ) → weighed src' (set fs (g + 1) e) (set ws g a) u k ≡ weighed src fs ws u k
    more_kept = weighed_kept p.groups c.kept (kept_set (g + 1) fs (g + 1) e (omega arith)) (kept_set g ws g a (omega arith))

    -- one group more
    more_at : ZoneGrouped m n z a t src fs ws g src' (set fs (g + 1) e) (set ws g a) (g + 1)
    more_at = record {
      grown = record {
        groups = record {
          inside = c.inside;
          light = record { light = λ i. omega (arith, set_below ws g a (weight_total + 1) p.shares (omega (arith, p.light)) (λ k. omega (arith, p.groups.light.light k)) i) };
          ordered = ordered_set fs g e p.firsts c.order p.groups.ordered;
          within = omega (arith, fs_here, zone_end, p.room, c.kept.same);
          each = more_each;
          firsts = omega (arith, length-set fs (g + 1) e, p.firsts);
          shares = omega (arith, length-set ws g a, p.shares);
        };
        same_src = c.kept.same;
        same_fs = length-set fs (g + 1) e;
        same_ws = length-set ws g a;
        least = omega arith;
        begin = fs_other 0 (omega arith);
        kept = more_kept;
      };
      few = omega arith;
      sums = λ u. weighed_more src' (set fs (g + 1) e) (set ws g a) u g
          ∙ ap₂ (λ x y. x + y) (more_kept g (omega arith) u)
          (ap₂ (λ x y. x * y) ws_here (omega (arith, more_old g (omega arith) u, more_new u)));
      end = omega (arith, fs_here, zone_end);
    }

  module _ {src' : List ℕ} {b e : ℕ} (x : b ≡ get_or fs g 0) (c : Collected m n z t n src b src' e) where
    pub zone_size : e ≤ zone_count * max_states
    zone_size = size_at (rw x at c)

    pub zone_more : ZoneGrouped m n z a t src fs ws g src' (set fs (g + 1) e) (set ws g a) (g + 1)
    zone_more = more_at (rw x at c)

module _ (m : List ℕ) (n t : ℕ) where
  counted_more : (z : ℕ) → counted m n t (z + 1) ≡ counted m n t z + arrived m one t z n
  unfolding counted
  counted_more z = sum_more z _

  counted_upto : (y z : ℕ) → y ≤ z → counted m n t y ≤ counted m n t z
  unfolding counted
  counted_upto y z h = sum_upto y z _ h

  into_zero : (w : List ℕ) (u : ℕ → ℕ) → into m n w u t 0 ≡ 0
  unfolding into
  into_zero w u = sum_zero _

  pub into_more : (w : List ℕ) (u : ℕ → ℕ) (z : ℕ) → into m n w u t (z + 1) ≡ into m n w u t z + get_or w z 0 * arrived m u t z n
  unfolding into
  into_more w u z = sum_more z _

module _ {m : List ℕ} {n : ℕ} {w : List ℕ} {t : ℕ} {ms src₀ fs₀ ws₀ : List ℕ} {g₀ : ℕ} (p : CanGroupState m n w t ms src₀ fs₀ ws₀ g₀) where
  pub state_start : GroupingState m n w t 0 src₀ fs₀ ws₀ g₀ src₀ fs₀ ws₀ g₀
  state_start = record {
    grown = grown_none p.groups;
    few = omega arith;
    sums = λ u. omega (arith, into_zero m n t w u);
    end = omega arith;
  }

  module _ {z g : ℕ} {src fs ws : List ℕ} (l : z < zone_count) (c : GroupingState m n w t z src₀ fs₀ ws₀ g₀ src fs ws g) where
    pub state_can : CanZone m n z (get_or w z 0) t ms src fs ws g
    state_can = record {
      target = p.target;
      marked = p.marked;
      moves = p.moves;
      zone = l;
      light = p.light z l;
      groups = c.grown.groups;
      firsts = omega (arith, c.grown.same_fs, c.few, p.firsts);
      shares = omega (arith, c.grown.same_ws, c.few, p.shares);
      room = omega (arith, c.end, counted_more m n t z, counted_upto m n t (z + 1) zone_count (omega arith), p.room, c.grown.same_src);
      size = omega (arith, c.grown.same_src, p.size);
    }

    pub state_more : {src' fs' ws' : List ℕ} {r : ℕ} → ZoneGrouped m n z (get_or w z 0) t src fs ws g src' fs' ws' r
        → GroupingState m n w t (z + 1) src₀ fs₀ ws₀ g₀ src' fs' ws' r
    state_more q = record {
      grown = grown_then c.grown q.grown;
      few = omega (arith, c.few, q.few);
      sums = λ u. omega (arith, q.sums u, c.sums u, into_more m n t w u z);
      end = omega (arith, q.end, c.end, counted_more m n t z);
    }

-- at the last zone a state's groups are done
pub state_done : {m : List ℕ} {n : ℕ} {w : List ℕ} {t z : ℕ} {src₀ fs₀ ws₀ : List ℕ} {g₀ : ℕ} {src fs ws : List ℕ} {g : ℕ}
    → z ≤ zone_count → zone_count ≤ z
    → GroupingState m n w t z src₀ fs₀ ws₀ g₀ src fs ws g → GroupingState m n w t zone_count src₀ fs₀ ws₀ g₀ src fs ws g
state_done {z = z} x y c = let e : z ≡ zone_count = omega arith in rw e at c
