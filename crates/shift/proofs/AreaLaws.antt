-- The table of the normal area, from neighbours to any two entries. Laws.
use Rattle.std.specs.Prelude.{Bool, true, false, not, List, ◌≡◌, refl, ℕ, zero, suc, ◌+◌, ◌-◌, ◌<◌, ◌≤◌, ◌^◌, T, ltb, leb, length, get_or, drop}
use Rattle.std.proofs.Common.{sym, ap, subst, arith, add-one, add-zero, le_refl, add-sub_of_le, ltb→lt, nltb→le, leb→le, lit<, lit≤}
use Rattle.shift.specs.Area.{areas, area_at, last_area, NormalTable}
use Rattle.shift.specs.NeighbourLaws.{both, both_first, both_second, along_at}

-- ---- the test, computed once over the whole table

-- b is above a, c is above b, and the step to c is no longer than that to b
abbrev bends : ℕ → ℕ → ℕ → Bool
bends a b c = both (ltb a b) (both (ltb b c) (leb (c + a) (b + b)))

three : (z : ℕ) → z < 449 → T (bends (area_at z) (area_at (suc z)) (area_at (suc (suc z))))
unfolding area_at areas
three z h = along_at bends 0 4283539 (drop 2 areas) tt z h

-- at the places as the claim writes them
at_one : (z : ℕ) → area_at (suc z) ≡ area_at (z + 1)
at_one z = ap area_at (sym (add-one z))

at_two : (z : ℕ) → area_at (suc (suc z)) ≡ area_at (z + 2)
at_two z = let e : suc (suc z) ≡ z + 2 = omega arith in ap area_at e

rising : (z : ℕ) → z < last_area → area_at z < area_at (z + 1)
unfolding area_at areas
rising z h = go (ltb z 449) (ltb→lt z 449) (nltb→le z 449)
  where
    go : (b : Bool) → (T b → z < 449) → (T (not b) → 449 ≤ z) → area_at z < area_at (z + 1)
    go true y n = rw (at_one z) at (ltb→lt (area_at z) (area_at (suc z)) (both_first (ltb (area_at z) (area_at (suc z))) _ (three z (y tt))))
    go false y n = let e : z ≡ 449 = omega (arith, n tt) in rw e (lit< tt)

slowing : (z : ℕ) → z + 2 ≤ last_area → area_at (z + 2) + area_at z ≤ area_at (z + 1) + area_at (z + 1)
slowing z h =
    let a = area_at z in
    let b = area_at (suc z) in
    let c = area_at (suc (suc z)) in
    let t = both_second (ltb b c) (leb (c + a) (b + b)) (both_second (ltb a b) _ (three z (omega arith))) in
    rw (at_one z, at_two z) at (leb→le (c + a) (b + b) t)

pub normal_table : NormalTable
unfolding area_at areas
normal_table = record { first = refl; rises = rising; slows = slowing; last = lit≤ tt }

-- as many entries as there are hundredths, and a list that is the table has its entries
pub area_count : length areas ≡ last_area + 1
unfolding areas
area_count = refl

pub area_read : (l : List ℕ) → l ≡ areas → (z : ℕ) → get_or l z 0 ≡ area_at z
unfolding area_at
area_read l e z = ap (λ (x : List ℕ). get_or x z 0) e

-- ---- any two entries

climb : (a d : ℕ) → a + d ≤ last_area → area_at a + d ≤ area_at (a + d)
climb a zero h = let e : a + 0 ≡ a = omega arith in omega (arith, ap area_at e)
climb a (suc d) h =
    let more : a + suc d ≡ a + d + 1 = omega arith in
    let e : area_at (a + suc d) ≡ area_at (a + d + 1) = ap area_at more in
    omega (arith, climb a d (omega arith), normal_table.rises (a + d) (omega arith))

-- an entry further on is larger, by one at least for each place
pub area_rises : (a b : ℕ) → a ≤ b → b ≤ last_area → area_at a + (b - a) ≤ area_at b
area_rises a b l h = subst (λ (x : ℕ). area_at a + (b - a) ≤ area_at x) (add-sub_of_le l) (climb a (b - a) (omega arith))

pub area_within : (a : ℕ) → a ≤ last_area → area_at a ≤ 2 ^ 29
area_within a h = omega (arith, area_rises a last_area h (le_refl last_area), normal_table.last)

-- ---- the steps, carried to any two stretches of one length

later : (a e : ℕ) → a + e + 1 ≤ last_area → area_at (a + e + 1) + area_at a ≤ area_at (a + 1) + area_at (a + e)
later a zero h = rw add-zero (le_refl (area_at (a + 1) + area_at a))
later a (suc e) h =
    let two : a + suc e + 1 ≡ a + e + 2 = omega arith in
    let one : a + suc e ≡ a + e + 1 = omega arith in
    let p : area_at (a + suc e + 1) ≡ area_at (a + e + 2) = ap area_at two in
    let q : area_at (a + suc e) ≡ area_at (a + e + 1) = ap area_at one in
    omega (arith, later a e (omega arith), normal_table.slows (a + e) (omega arith))

slow : (a e d : ℕ) → a + e + d ≤ last_area → area_at (a + e + d) + area_at a ≤ area_at (a + d) + area_at (a + e)
slow a e zero h = rw (add-zero, add-zero) (omega arith)
slow a e (suc d) h =
    let up : a + e + suc d ≡ a + d + e + 1 = omega arith in
    let over : a + suc d ≡ a + d + 1 = omega arith in
    let turn : a + d + e ≡ a + e + d = omega arith in
    let p : area_at (a + e + suc d) ≡ area_at (a + d + e + 1) = ap area_at up in
    let q : area_at (a + suc d) ≡ area_at (a + d + 1) = ap area_at over in
    let r : area_at (a + d + e) ≡ area_at (a + e + d) = ap area_at turn in
    omega (arith, slow a e d (omega arith), later (a + d) e (omega arith))

-- from b on the area grows by no more, over d hundredths, than from a on, for an a up to b
pub area_slows : (a b d : ℕ) → a ≤ b → b + d ≤ last_area → area_at (b + d) + area_at a ≤ area_at (a + d) + area_at b
area_slows a b d l h =
    subst (λ (x : ℕ). area_at (x + d) + area_at a ≤ area_at (a + d) + area_at x) (add-sub_of_le l) (slow a (b - a) d (omega arith))

-- two stretches from 0 have together no less than one as long as both
pub area_joined : (x y : ℕ) → x + y ≤ last_area → area_at (x + y) ≤ area_at x + area_at y
area_joined x y h =
    let e : 0 + y ≡ y = omega arith in
    omega (arith, ap area_at e, area_slows 0 x y (omega arith) h, normal_table.first)
