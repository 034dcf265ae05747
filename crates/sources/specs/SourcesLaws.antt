-- Laws of the sources that a zone leads to a state.
use Rattle.std.specs.Prelude.{◌≡◌, refl, Bool, List, ℕ, ◌+◌, ◌*◌, ◌≤◌, ◌<◌, eqb, length, get_or, set}
use Rattle.std.proofs.Common.{ap, ◌∙◌, mul-one, arith, length-set, get_or-set_same, get_or-set_other, eq-eqb, ne_eqb}
use Rattle.rules.specs.Bounds.{zone_count}
use Rattle.runlength.specs.Sum.{sum, only}
use Rattle.runlength.specs.SumLaws.{sum_zero, sum_more, sum_cong, sum_le, sum_upto, sum_const}
use Rattle.runlength.specs.SetLaws.{only_le, set_below}
use Rattle.sources.specs.Sources.{gathered}
use Rattle.sources.specs.Grouping.{one, arrived, KeptBelow, CanTake, Taken, CanCollect, Collected}

pub gathered_more : (src : List ℕ) (u : ℕ → ℕ) (e : ℕ) → gathered src u (e + 1) ≡ gathered src u e + u (get_or src e 0)
unfolding gathered
gathered_more src u e = sum_more e (λ j. u (get_or src j 0))

-- more sources bring no less
pub gathered_upto : (src : List ℕ) (u : ℕ → ℕ) (b e : ℕ) → b ≤ e → gathered src u b ≤ gathered src u e
unfolding gathered
gathered_upto src u b e h = sum_upto b e (λ j. u (get_or src j 0)) h

-- sources before b alone count
pub gathered_kept : {b : ℕ} {src src' : List ℕ} → KeptBelow b src src' → (u : ℕ → ℕ) (e : ℕ) → e ≤ b → gathered src' u e ≡ gathered src u e
unfolding gathered
gathered_kept {b} {src} {src'} h u e l =
    sum_cong e (λ j. u (get_or src' j 0)) (λ j. u (get_or src j 0)) (λ k i. ap u (h.kept k (omega arith)))

-- one unit each: the sum is the number of sources
pub ones : (src : List ℕ) (e : ℕ) → gathered src one e ≡ e
unfolding gathered
ones src e = sum_const e 1 ∙ mul-one e

pub kept_none : (b : ℕ) (l : List ℕ) → KeptBelow b l l
kept_none b l = record { same = refl; kept = λ k h. refl }

pub kept_set : (b : ℕ) (l : List ℕ) (i v : ℕ) → b ≤ i → KeptBelow b l (set l i v)
kept_set b l i v h = record { same = length-set l i v; kept = λ k x. get_or-set_other l i k v 0 (omega arith) }

kept_then : {b c : ℕ} {l l' l'' : List ℕ} → b ≤ c → KeptBelow b l l' → KeptBelow c l' l'' → KeptBelow b l l''
kept_then h p q = record { same = q.same ∙ p.same; kept = λ k x. q.kept k (omega arith) ∙ p.kept k x }

module _ {src : List ℕ} {e s entry t : ℕ} (p : CanTake src e s entry t) where
  -- a source that is taken has a place, and is then there
  pub take_room : entry ≡ t → e < length src
  take_room x = p.room x

  pub take_more : entry ≡ t → Taken src e s entry t (set src e s) (e + 1)
  take_more x = record {
    kept = kept_set e src e s (omega arith);
    order = omega arith;
    inside = λ n h i. record { inside = set_below src e s n (p.room x) h i.inside };
    sums = λ u. omega (
      arith,
      gathered_more (set src e s) u e,
      gathered_kept (kept_set e src e s (omega arith)) u e (omega arith),
      ap u (get_or-set_same src e s 0 (p.room x)),
      ap (λ (b : Bool). only b (u s)) (eq-eqb entry t x),
    );
  }

-- a state that moves elsewhere is no source
pub take_none : {src : List ℕ} {e s entry t : ℕ} → (entry ≡ t → ⊥) → Taken src e s entry t src e
take_none {src} {e} {s} {entry} {t} x = record {
  kept = kept_none e src;
  order = omega arith;
  inside = λ n h i. i;
  sums = λ u. omega (arith, ap (λ (b : Bool). only b (u s)) (ne_eqb entry t x));
}

module _ (m : List ℕ) (u : ℕ → ℕ) (t z : ℕ) where
  arrived_zero : arrived m u t z 0 ≡ 0
  unfolding arrived
  arrived_zero = sum_zero _

  arrived_more : (s : ℕ) → arrived m u t z (s + 1) ≡ arrived m u t z s + only (eqb (get_or m (zone_count * s + z) 0) t) (u s)
  unfolding arrived
  arrived_more s = sum_more s _

  arrived_upto : (s n : ℕ) → s ≤ n → arrived m u t z s ≤ arrived m u t z n
  unfolding arrived
  arrived_upto s n h = sum_upto s n _ h

  -- at most the units of all states
  pub arrived_most : (n : ℕ) → arrived m u t z n ≤ sum n u
  unfolding arrived
  arrived_most n = sum_le n _ u (λ k l. only_le (eqb (get_or m (zone_count * k + z) 0) t) (u k))

module _ {m : List ℕ} {n z t : ℕ} {src₀ : List ℕ} {b : ℕ} (p : CanCollect m n z t src₀ b) where
  pub collect_start : Collected m n z t 0 src₀ b src₀ b
  collect_start = record {
    kept = kept_none b src₀;
    order = omega arith;
    inside = p.inside;
    sums = λ u. omega (arith, arrived_zero m u t z);
  }

  module _ {s e : ℕ} {src : List ℕ} (l : s < n) (c : Collected m n z t s src₀ b src e) where
    pub collect_can : CanTake src e s (get_or m (zone_count * s + z) 0) t
    collect_can = record {
      room = λ x. omega (
        arith,
        c.sums one,
        ones src e,
        ones src₀ b,
        arrived_more m one t z s,
        arrived_upto m one t z (s + 1) n (omega arith),
        ap (λ (y : Bool). only y 1) (eq-eqb (get_or m (zone_count * s + z) 0) t x),
        c.kept.same,
        p.room,
      );
      state = omega (arith, p.moves.most);
    }

    pub collect_more : {src' : List ℕ} {r : ℕ} → Taken src e s (get_or m (zone_count * s + z) 0) t src' r
        → Collected m n z t (s + 1) src₀ b src' r
    collect_more q = record {
      kept = kept_then c.order c.kept q.kept;
      order = omega (arith, c.order, q.order);
      inside = q.inside n l c.inside;
      sums = λ u. omega (arith, q.sums u, c.sums u, arrived_more m u t z s);
    }

  -- at the last state all sources are collected
  pub collect_done : {s e : ℕ} {src : List ℕ} → s ≤ n → n ≤ s → Collected m n z t s src₀ b src e → Collected m n z t n src₀ b src e
  collect_done {s} x y c = let e : s ≡ n = omega arith in rw e at c
