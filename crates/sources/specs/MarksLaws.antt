-- Laws of the marks.
use Rattle.std.specs.Prelude.{◌≡◌, Bool, List, ℕ, ◌+◌, ◌*◌, ◌%◌, ◌≤◌, ◌<◌, length, get_or, set}
use Rattle.std.proofs.Common.{sym, ap, arith, length-set, get_or-set_same, get_or-set_other, ne_eqb}
use Rattle.std.proofs.Math.Decide.{ℕ_discrete, dec_lt}
use Rattle.rules.specs.Bounds.{zone_count}
use Rattle.runlength.specs.Sum.{only}
use Rattle.runlength.specs.SumLaws.{sum_none}
use Rattle.sources.specs.Marks.{CanSet, Set, CanMark, MarkedUpTo}
use Rattle.sources.specs.Grouping.{arrived}

pub set_done : {ms : List ℕ} {t z n : ℕ} → CanSet ms z n → t < n → Set ms t z n (set ms (zone_count * t + z) 1)
set_done {ms} {t} {z} p l =
    let h : zone_count * t + z < length ms = omega (arith, p.zone, p.room) in
    record {
      same = length-set ms (zone_count * t + z) 1;
      kept = λ q e. elim (ℕ_discrete (zone_count * t + z) q) [
        | yes x ↦ rw (← x) (get_or-set_same ms (zone_count * t + z) 1 0 h)
        | no o ↦ rw (get_or-set_other ms (zone_count * t + z) q 1 0 (λ x. o (sym x))) e
      ];
      here = λ i. get_or-set_same ms (zone_count * t + z) 1 0 h;
    }

-- the moves marked one by one: before the first, what a mark asks, one more, and at the last
pub mark_start : {m : List ℕ} {n : ℕ} {ms : List ℕ} → CanMark m n ms → MarkedUpTo m n 0 ms
mark_start p = record { room = p.room; seen = λ j h. absurd (omega arith) }

pub mark_can : {m : List ℕ} {n k z : ℕ} {ms : List ℕ} → z ≡ k % zone_count → MarkedUpTo m n k ms → CanSet ms z n
mark_can e c = record { zone = omega arith; room = c.room }

pub mark_more : {m : List ℕ} {n k t z : ℕ} {ms ms' : List ℕ} → t ≡ get_or m k 0 → z ≡ k % zone_count → MarkedUpTo m n k ms → Set ms t z n ms'
    → MarkedUpTo m n (k + 1) ms'
mark_more {m} {n} {k} {t} {z} {ms} {ms'} e f c q = record {
  room = omega (arith, c.room, q.same);
  seen = λ j h l. elim (dec_lt j k) [
    | yes x ↦ q.kept (zone_count * get_or m j 0 + j % zone_count) (c.seen j x l)
    | no x ↦ let y : j ≡ k = omega arith in rw (y, ← e, ← f) (q.here (rw (y, ← e) at l))
  ];
}

pub mark_done : {m : List ℕ} {n k : ℕ} {ms : List ℕ} → zone_count * n ≤ k → MarkedUpTo m n k ms → MarkedUpTo m n (zone_count * n) ms
mark_done h c = record { room = c.room; seen = λ j l. c.seen j (omega arith) }

-- with no mark nothing arrives
pub unmarked : {m : List ℕ} {n : ℕ} {ms : List ℕ} {t z : ℕ} → MarkedUpTo m n (zone_count * n) ms → t < n → z < zone_count
    → get_or ms (zone_count * t + z) 0 ≡ 0
    → (u : ℕ → ℕ) → arrived m u t z n ≡ 0
unfolding arrived
unmarked {m} {n} {ms} {t} {z} c l h e u = sum_none n _ (λ s i. elim (ℕ_discrete (get_or m (zone_count * s + z) 0) t) [
  | yes x ↦ absurd (
      let y : (zone_count * s + z) % zone_count ≡ z = omega arith in
      let k : get_or ms (zone_count * t + z) 0 ≡ 1 = rw (x, y) at (c.seen (zone_count * s + z) (omega arith) (rw x l)) in
      omega (arith, e)
      )
  | no x ↦ ap (λ (b : Bool). only b (u s)) (ne_eqb (get_or m (zone_count * s + z) 0) t x)
])
