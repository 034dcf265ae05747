-- Laws of the area below a limit: it is 2^29 more than the area from 0, it rises, its two sides mirror each other, and its steps fall outwards.
use Rattle.std.specs.Prelude.{◌≡◌, refl, Bool, true, false, ℕ, suc, ◌+◌, ◌-◌, ◌*◌, ◌^◌, ◌<◌, ◌≤◌, ltb, pos, neg_ℤ, ◌-ℤ◌}
use Rattle.std.proofs.Common.{ap, arith, lt-ltb, le-ltb, ltb-true, ltb-false}
use Rattle.std.proofs.Math.IntN.{sub_ℕ}
use Rattle.runlength.specs.Scale.{weight_total}
use Rattle.shift.specs.Area.{area_at, last_area}
use Rattle.shift.proofs.NormalArea.{normal_table}
use Rattle.shift.proofs.AreaLaws.{area_count, area_read, area_rises, area_within, area_slows, area_joined}
use Rattle.shift.specs.Shift.{normal_area, area_between, max_shift}
use Rattle.shift.specs.Below.{below_of}
use Rattle.shift.specs.DifferenceLaws.{Is, is_sub, is_neg, is_minus, is_same, is_as}

pub below_low : (i : ℕ) → i < last_area → below_of i ≡ 2 ^ 29 - area_at (last_area - i)
unfolding below_of
below_low i h = rw (lt-ltb i last_area h)

pub below_high : (i : ℕ) → last_area ≤ i → below_of i ≡ 2 ^ 29 + area_at (i - last_area)
unfolding below_of
below_high i h = rw (le-ltb i last_area h)

-- what `below` meets its contract by
pub ruleset below_rules = (area_count, area_read, area_within, below_low, below_high)

-- on either side of the middle
module _ {P : Type 0} (i : ℕ) where
  sides : (i < last_area → P) → (last_area ≤ i → P) → P
  sides f g = go (ltb i last_area) refl
    where
      go : (t : Bool) → ltb i last_area ≡ t → P
      go true e = f (ltb-true i last_area e)
      go false e = g (ltb-false i last_area e)

-- ---- it rises, and is within probability one

pub below_rises : (j i : ℕ) → j ≤ i → i ≤ 2 * last_area → below_of j + (i - j) ≤ below_of i
below_rises j i h k =
    sides i
    (λ l.
    omega (
      arith,
      below_low i l,
      below_low j (omega arith),
      area_rises (last_area - i) (last_area - j) (omega arith) (omega arith),
      area_within (last_area - j) (omega arith),
    ))
    (λ l.
    sides j
    (λ m.
    omega (
      arith,
      below_high i l,
      below_low j m,
      area_rises 0 (i - last_area) (omega arith) (omega arith),
      area_rises 0 (last_area - j) (omega arith) (omega arith),
      area_within (last_area - j) (omega arith),
    ))
    (λ m. omega (arith, below_high i l, below_high j m, area_rises (j - last_area) (i - last_area) (omega arith) (omega arith))))

pub below_within : (i : ℕ) → i ≤ 2 * last_area → below_of i ≤ weight_total
below_within i h =
    sides i
    (λ l. omega (arith, below_low i l))
    (λ l. omega (arith, below_high i l, area_within (i - last_area) (omega arith)))

-- ---- the two sides

mirror_low : (i j : ℕ) → i + j ≡ 2 * last_area → i < last_area → below_of i + below_of j ≡ weight_total
mirror_low i j e l =
    let n : j - last_area ≡ last_area - i = omega arith in
    let p : area_at (j - last_area) ≡ area_at (last_area - i) = ap area_at n in
    omega (arith, below_low i l, below_high j (omega arith), area_within (last_area - i) (omega arith))

pub below_mirror : (i j : ℕ) → i + j ≡ 2 * last_area → below_of i + below_of j ≡ weight_total
below_mirror i j e =
    sides i
    (mirror_low i j e)
    (λ l.
    sides j
    (λ m. omega (arith, mirror_low j i (omega arith) m))
    (λ m.
    let p : i - last_area ≡ 0 = omega arith in
    let q : j - last_area ≡ 0 = omega arith in
    omega (arith, below_high i l, below_high j m, ap area_at p, ap area_at q, normal_table.first)))

-- ---- of two neighbours of one width the one further from the middle has no more

-- above the middle; `over` is where the inner one reaches beyond it
module _ (i d : ℕ) (h : last_area ≤ i) (within : i + d ≤ 2 * last_area) where
  beside : last_area ≤ i - d → d ≤ i → below_of (i + d) + below_of (i - d) ≤ below_of i + below_of i
  beside g l =
      let m = i - last_area in
      let n = i - d - last_area in
      let up : i + d - last_area ≡ m + d = omega arith in
      let back : n + d ≡ m = omega arith in
      let p : area_at (i + d - last_area) ≡ area_at (m + d) = ap area_at up in
      let q : area_at (n + d) ≡ area_at m = ap area_at back in
      omega (arith, below_high (i + d) (omega arith), below_high (i - d) g, below_high i h, area_slows n m d (omega arith) (omega arith))

  over : i - d < last_area → below_of (i + d) + below_of (i - d) ≤ below_of i + below_of i
  over g =
      let m = i - last_area in
      let r = last_area - (i - d) in
      let up : i + d - last_area ≤ m + m + r = omega arith in
      let p = area_rises (i + d - last_area) (m + m + r) up (omega arith) in
      omega (
        arith,
        below_high (i + d) (omega arith),
        below_low (i - d) g,
        below_high i h,
        area_within r (omega arith),
        area_joined (m + m) r (omega arith),
        area_joined m m (omega arith),
      )

  pub outer_above : d ≤ i → below_of (i + d) + below_of (i - d) ≤ below_of i + below_of i
  outer_above l = sides (i - d) over (λ g. beside g l)

-- below the middle, by the mirror
pub outer_below : (i d : ℕ) → i ≤ last_area → d ≤ i → below_of i + below_of i ≤ below_of (i + d) + below_of (i - d)
outer_below i d h l =
    let j = 2 * last_area - i in
    let less : i + d + (j - d) ≡ 2 * last_area = omega arith in
    omega (
      arith,
      outer_above j d (omega arith) (omega arith) (omega arith),
      below_mirror i j (omega arith),
      below_mirror (i - d) (j + d) (omega arith),
      below_mirror (i + d) (j - d) less,
    )

-- ---- 2^29 more than the area from 0

lifted : (i : ℕ) → i ≤ 2 * last_area → Is (normal_area (sub_ℕ i last_area)) (below_of i) (2 ^ 29)
unfolding normal_area
lifted i h =
    sides i
    (λ l.
    let e : suc (last_area - suc i) ≡ last_area - i = omega arith in
    let a = area_at (suc (last_area - suc i)) in
    rw (lt-ltb i last_area l)
    (is_as (neg_ℤ (pos a)) 0 a (below_of i) (2 ^ 29)
    (omega (arith, below_low i l, ap area_at e, area_within (last_area - i) (omega arith)))
    (is_neg (pos a) a 0 (omega arith))))
    (λ l. rw (le-ltb i last_area l) (omega (arith, below_high i l)))

-- added to the limit's place x less the shift's place t, it is the place in the table below: 300
abbrev pub onward : ℕ
onward = last_area + max_shift - 300

-- a limit less the shift: the limit is x - 300, the shift t - max_shift; no place is below 0 only while the table reaches the furthest
limit_less : (t x : ℕ) → t ≤ 2 * max_shift → sub_ℕ x 300 -ℤ sub_ℕ t max_shift ≡ sub_ℕ (x + onward - t) last_area
limit_less t x h =
    is_same (sub_ℕ x 300 -ℤ sub_ℕ t max_shift) (sub_ℕ (x + onward - t) last_area) (x + onward - t) last_area
    (is_as (sub_ℕ x 300 -ℤ sub_ℕ t max_shift) (x + max_shift) (300 + t) (x + onward - t) last_area (omega arith)
    (is_minus (sub_ℕ x 300) (sub_ℕ t max_shift) x 300 t max_shift (is_sub x 300) (is_sub t max_shift)))
    (is_sub (x + onward - t) last_area)

-- so the area between two limits, over the integers, is a difference of numbers
pub between_below : (t low high : ℕ) → t ≤ 2 * max_shift → low ≤ high → high ≤ 600
    → area_between (sub_ℕ t max_shift) (sub_ℕ low 300) (sub_ℕ high 300) ≡ pos (below_of (high + onward - t) - below_of (low + onward - t))
unfolding area_between
between_below t low high ht l k =
    let i = high + onward - t in
    let j = low + onward - t in
    let m = below_rises j i (omega arith) (omega arith) in
    rw (limit_less t high ht, limit_less t low ht)
    (is_same (normal_area (sub_ℕ i last_area) -ℤ normal_area (sub_ℕ j last_area)) (pos (below_of i - below_of j)) (below_of i + 2 ^ 29) (2 ^ 29 + below_of j)
    (is_minus (normal_area (sub_ℕ i last_area)) (normal_area (sub_ℕ j last_area)) (below_of i) (2 ^ 29) (below_of j) (2 ^ 29)
    (lifted i (omega arith)) (lifted j (omega arith)))
    (omega arith))
