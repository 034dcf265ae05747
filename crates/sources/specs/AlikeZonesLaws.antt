-- Laws of alike zones.
use Rattle.std.specs.Prelude.{◌≡◌, refl, Bool, true, false, List, ℕ, ◌+◌, ◌*◌, ◌≤◌, ◌<◌, eqb, length, set}
use Rattle.std.proofs.Math.Path.{sym, ap}
use Rattle.std.proofs.Common.{◌∙◌, get_or-set_same, get_or-set_other}
use native.Mathlib.Omega.{arith}
use Rattle.std.proofs.Math.ListN.{get_or, length-set}
use Rattle.std.specs.Bool.{MatchBool}
use Rattle.std.specs.List.{AllWithin, range_with_len}
use Rattle.std.proofs.lemmas.List.FromFn.{length-range_with_len, get_or-range_with_len}
use Rattle.rules.specs.Bounds.{zone_count}
use Rattle.runlength.specs.Sum.{only, at}
use Rattle.runlength.specs.SumLaws.{sum_zero, sum_more, sum_cong, sum_term, sum_upto, sum_none, sum_point}
use Rattle.runlength.specs.Scale.{weight_total}
use Rattle.sources.specs.Grouping.{arrived, into}
use Rattle.sources.specs.GroupingLaws.{into_more}
use Rattle.sources.specs.AlikeZones.{AlikeZones, AlikeIf, CanJoin, Joining}

-- a test of every state decides
pub alike_if : {m : List ℕ} {n a b : ℕ} (r : Bool) (No : Type 0)
    → MatchBool r (AllWithin (λ s. get_or m (zone_count * s + a) 0 ≡ get_or m (zone_count * s + b) 0) (range_with_len 0 n) 0 (length (range_with_len 0 n))) No
    → AlikeIf m n a b r
alike_if {m} {n} {a} {b} true No p = record {
  same = λ e s l. let here : get_or (range_with_len 0 n) s 0 ≡ s = omega (arith, get_or-range_with_len 0 n s 0 l) in
      rw here at (p s 0 (omega arith) (rw (length-range_with_len 0 n) l));
}
alike_if false No p = record { same = λ e. absurd (cc) }

-- two zones that are not alike, and two that send every state alike
pub alike_not : {m : List ℕ} {n a b : ℕ} → AlikeIf m n a b false
alike_not = record { same = λ e. absurd (let z : ◌≡◌ {A = ℕ} 0 1 = cc in omega arith) }

pub alike_all : {m : List ℕ} {n a b s : ℕ} → n ≤ s → ((k : ℕ) → k < s → get_or m (zone_count * k + a) 0 ≡ get_or m (zone_count * k + b) 0)
    → AlikeIf m n a b true
alike_all h p = record { same = λ e k l. p k (omega arith) }

-- an earlier zone that was found alike, and the zone itself
pub alike_found : {m : List ℕ} {n a z : ℕ} {r : Bool} → AlikeIf m n a z r → r ≡ true → a < z → AlikeZones m n a z
alike_found p e l = record { within = omega arith; same = p.same e }

pub alike_self : {m : List ℕ} {n z : ℕ} → AlikeZones m n z z
alike_self = record { within = omega arith; same = λ s l. refl }

alike_arrived : {m : List ℕ} {n a z : ℕ} → AlikeZones m n a z → (u : ℕ → ℕ) (t : ℕ) → arrived m u t a n ≡ arrived m u t z n
unfolding arrived
alike_arrived {m} {n} {a} {z} p u t = sum_cong n _ _ (λ k l. ap (λ (x : ℕ). only (eqb x t) (u k)) (p.same k l))

module _ {m : List ℕ} {n : ℕ} {w j₀ : List ℕ} (p : CanJoin m n w j₀) where
  pub join_start : Joining m n w 0 j₀
  unfolding into
  join_start = record {
    room = p.room;
    total = sum_none zone_count (at j₀) (λ k l. p.none k) ∙ sym (sum_zero (at w));
    sums = λ u t. sum_none zone_count (λ y. get_or j₀ y 0 * arrived m u t y n) (λ k l. omega (arith, ap (λ (x : ℕ). x * arrived m u t k n) (p.none k))) ∙ sym (sum_zero _);
  }

  module _ {z a : ℕ} {j : List ℕ} (l : z < zone_count) (c : Joining m n w z j) (q : AlikeZones m n a z) where
    pub join_place : a < length j
    join_place = omega (arith, q.within, c.room)

    here : get_or (set j a (get_or j a 0 + get_or w z 0)) a 0 ≡ get_or j a 0 + get_or w z 0
    here = get_or-set_same j a (get_or j a 0 + get_or w z 0) 0 join_place

    other : (k : ℕ) → (k ≡ a → ⊥) → get_or (set j a (get_or j a 0 + get_or w z 0)) k 0 ≡ get_or j k 0
    other k h = get_or-set_other j a k (get_or j a 0 + get_or w z 0) 0 h

    pub join_room : get_or j a 0 + get_or w z 0 ≤ weight_total
    join_room = omega (
      arith,
      sum_term zone_count a (at j) (omega (arith, q.within)),
      c.total,
      sum_more z (at w),
      sum_upto (z + 1) zone_count (at w) (omega arith),
      p.weights,
    )

    pub join_more : Joining m n w (z + 1) (set j a (get_or j a 0 + get_or w z 0))
    unfolding into
    join_more = record {
      room = length-set j a (get_or j a 0 + get_or w z 0) ∙ c.room;
      total = omega (
        arith,
        sum_point zone_count a (get_or w z 0) (at j) (at (set j a (get_or j a 0 + get_or w z 0))) (omega (arith, q.within)) here (λ k i h. other k h),
        c.total,
        sum_more z (at w),
      );
      sums = λ u t. sum_point zone_count a (get_or w z 0 * arrived m u t z n)
          (λ y. get_or j y 0 * arrived m u t y n) (λ y. get_or (set j a (get_or j a 0 + get_or w z 0)) y 0 * arrived m u t y n) (omega (arith, q.within))
          (omega (arith, ap (λ (x : ℕ). x * arrived m u t a n) here, ap (λ (x : ℕ). get_or w z 0 * x) (alike_arrived q u t)))
          (λ k i h. ap (λ (x : ℕ). x * arrived m u t k n) (other k h))
          ∙ ap (λ (x : ℕ). x + get_or w z 0 * arrived m u t z n) (c.sums u t) ∙ sym (into_more m n t w u z);
    }

  -- at the last zone all are joined
  pub join_done : {z : ℕ} {j : List ℕ} → z ≤ zone_count → zone_count ≤ z → Joining m n w z j → Joining m n w zone_count j
  join_done {z} x y c = let e : z ≡ zone_count = omega arith in rw e at c
