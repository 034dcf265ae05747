-- Laws of one rule's window: one age at a time, bounds, and document 01's sentence age by age.
use Rattle.std.specs.Prelude.{◌≡◌, refl, Bool, true, false, cond, ◌⊎◌, ℕ, zero, suc, ◌+◌, ◌-◌, ◌*◌, ◌/◌, ◌%◌, ◌^◌, ◌≤◌, ◌<◌, leb}
use Rattle.std.proofs.Common.{sym, ap, ◌∙◌, ⊎_elim, inl, inr, arith, le-leb, leb-true, leb-false}
use Rattle.std.proofs.Math.Nat.{div-div-eq-div-mul, pow-succ', zero-div}
use Rattle.std.specs.Int.Count.{ones, ones_in, ones_step}
use Rattle.std.proofs.Math.Pow.{field, mod-mod-pow}
use Rattle.std.proofs.lemmas.Bool.{lt-leb}
use Rattle.rules.specs.declared.Rule.{Rule}
use Rattle.window.specs.Window.{hit_of_age, hits_up_to, live_hit, live, remembered}

pub le_or_lt : (a b : ℕ) → (a ≤ b) ⊎ (b < a)
le_or_lt a b = go (leb a b) refl
  where
    go : (t : Bool) → leb a b ≡ t → (a ≤ b) ⊎ (b < a)
    go true e = inl (leb-true a b e)
    go false e = inr (leb-false a b e)

pub cond_le : (t : Bool) (b : ℕ) → cond t b 0 ≤ b
cond_le true b = omega arith
cond_le false b = omega arith

-- ---- one age at a time

live_cons : (k seen room w : ℕ) → 0 < room
    → live k seen room w ≡ live_hit k (seen + w % 2) room (w % 2) + 2 * live k (seen + w % 2) (room - 1) (w / 2)
unfolding live
live_cons k seen zero w h = absurd (omega arith)
live_cons k seen (suc n) w h = let e : suc n - 1 ≡ n = omega arith in rw e

pub live_none : (k seen room w : ℕ) → room ≡ 0 → live k seen room w ≡ 0
unfolding live
live_none k seen room w h = rw h

-- the newest hit stays, or is forgotten
module _ (k seen room w : ℕ) (h : 0 < room) where
  pub live_stays : k ≤ seen + w % 2 + room → live k seen room w ≡ w % 2 + 2 * live k (seen + w % 2) (room - 1) (w / 2)
  live_stays q = live_cons k seen room w h ∙ rw (le-leb k (seen + w % 2 + room) q)

  pub live_goes : seen + w % 2 + room < k → live k seen room w ≡ 2 * live k (seen + w % 2) (room - 1) (w / 2)
  live_goes q = live_cons k seen room w h ∙ rw (lt-leb k (seen + w % 2 + room) q) (omega arith)

-- the hits up to an age are the ones among as many digits
pub hits_ones : (n w : ℕ) → hits_up_to n w ≡ ones (w % 2 ^ n)
unfolding hits_up_to ones ones_in
hits_ones zero w = let e : w % 1 ≡ 0 = omega arith in rw e
hits_ones (suc n) w =
    let e : suc n ≡ n + 1 = omega arith in
    ap (λ (t : ℕ). w % 2 + t) (hits_ones n (w / 2))
    ∙ ap (λ (t : ℕ). t + ones (w / 2 % 2 ^ n)) (sym (mod-mod-pow w n 1))
    ∙ ap (λ (t : ℕ). w % 2 ^ (n + 1) % 2 + ones t) (sym (field w n 1))
    ∙ sym (ones_step (w % 2 ^ (n + 1)))
    ∙ ap (λ (t : ℕ). ones (w % 2 ^ t)) (sym e)

-- ---- bounds

pub live_le : (k seen room w : ℕ) → live k seen room w ≤ w
unfolding live
live_le k seen zero w = omega arith
live_le k seen (suc n) w = omega (arith, live_le k (seen + w % 2) n (w / 2), cond_le (leb k (seen + w % 2 + suc n)) (w % 2))

pub live_lt : (k seen room w : ℕ) → live k seen room w < 2 ^ room
unfolding live
live_lt k seen zero w = omega arith
live_lt k seen (suc n) w = omega (arith, live_lt k (seen + w % 2) n (w / 2), cond_le (leb k (seen + w % 2 + suc n)) (w % 2))

pub hits_le : (n w : ℕ) → hits_up_to n w ≤ n
unfolding hits_up_to
hits_le zero w = omega arith
hits_le (suc n) w = omega (arith, hits_le n (w / 2))

-- ---- document 01's sentence, age by age

-- the digits of b + 2 x are b, and then those of x
digit_first : (b x : ℕ) → b < 2 → (b + 2 * x) / 2 ^ 0 % 2 ≡ b
digit_first b x h = omega arith

digit_later : (i b x : ℕ) → b < 2 → (b + 2 * x) / 2 ^ suc i % 2 ≡ x / 2 ^ i % 2
digit_later i b x h =
    let e : 2 ^ suc i ≡ 2 * 2 ^ i = pow-succ' 2 i in
    let f : (b + 2 * x) / 2 ≡ x = omega arith in
    rw (e, ← (div-div-eq-div-mul (b + 2 * x) 2 (2 ^ i)), f)

-- what the sentence says of the digit i of w, where `seen` hits are newer than digit 0 and it leaves the last m after `room` points
abbrev kept : ℕ → ℕ → ℕ → ℕ → ℕ → ℕ
kept k seen room i w = cond (leb (suc i) room) (cond (leb k (seen + hits_up_to (suc i) w + (room - i))) (w / 2 ^ i % 2) 0) 0

-- the sentence of an older digit is that of the digit before it in the window without its newest point
kept_next : (k seen n i w : ℕ) → kept k (seen + w % 2) n i (w / 2) ≡ kept k seen (suc n) (suc i) w
unfolding hits_up_to
kept_next k seen n i w =
    let e : w / 2 / 2 ^ i ≡ w / 2 ^ suc i = div-div-eq-div-mul w 2 (2 ^ i) ∙ ap (λ (t : ℕ). w / t) (sym (pow-succ' 2 i)) in
    let s : seen + w % 2 + hits_up_to (suc i) (w / 2) + (n - i) ≡ seen + hits_up_to (suc (suc i)) w + (suc n - suc i) = omega arith in
    ⊎_elim
    (λ (h : suc i ≤ n). rw (le-leb (suc i) n h, le-leb (suc (suc i)) (suc n) (omega arith), e, s))
    (λ (h : n < suc i). rw (lt-leb (suc i) n h, lt-leb (suc (suc i)) (suc n) (omega arith)))
    (le_or_lt (suc i) n)

live_digit : (k seen room i w : ℕ) → live k seen room w / 2 ^ i % 2 ≡ kept k seen room i w
unfolding live hits_up_to
live_digit k seen zero i w = rw (zero-div (2 ^ i), lt-leb (suc i) 0 (omega arith))
live_digit k seen (suc n) zero w =
    let p = cond_le (leb k (seen + w % 2 + suc n)) (w % 2) in
    let e : seen + hits_up_to 1 w + (suc n - 0) ≡ seen + w % 2 + suc n = omega arith in
    let f : w / 2 ^ 0 % 2 ≡ w % 2 = omega arith in
    digit_first (live_hit k (seen + w % 2) (suc n) (w % 2)) (live k (seen + w % 2) n (w / 2)) (omega arith) ∙ rw (le-leb 1 (suc n) (omega arith), e, f)
live_digit k seen (suc n) (suc i) w =
    let p = cond_le (leb k (seen + w % 2 + suc n)) (w % 2) in
    digit_later i (live_hit k (seen + w % 2) (suc n) (w % 2)) (live k (seen + w % 2) n (w / 2)) (omega arith)
    ∙ live_digit k (seen + w % 2) n i (w / 2)
    ∙ kept_next k seen n i w

-- a hit of age a is remembered if a ≤ m - 1 and the hits of age 1 to a, plus m - a, are at least k; else it is forgotten
pub remembered_age : (r : Rule) (w a : ℕ) → 1 ≤ a →
    hit_of_age a (remembered r w) ≡ cond (leb a (r.m - 1)) (cond (leb r.k (hits_up_to a w + (r.m - a))) (hit_of_age a w) 0) 0
remembered_age r w a h =
    let e : suc (a - 1) ≡ a = omega arith in
    let s : 0 + hits_up_to a w + (r.m - 1 - (a - 1)) ≡ hits_up_to a w + (r.m - a) = omega arith in
    live_digit r.k 0 (r.m - 1) (a - 1) w ∙ rw (e, s)
