-- A state stays one that can be given: the empty one, and one after a quiet point. Laws.
use Rattle.std.specs.Prelude.{◌≡◌, refl, Bool, true, false, cond, List, [], ◌∷◌, ℕ, zero, suc, ◌+◌, ◌-◌, ◌*◌, ◌/◌, ◌%◌, ◌^◌, ◌≤◌, ◌<◌, min, leb, eqb}
use Rattle.std.proofs.Common.{sym, ap, ◌∙◌, lt_of_le_of_lt, lt_of_lt_of_le, div-lt_iff_lt-mul, add-one, arith, pow_pos, pow_mono, leb-false, eq-eqb, eqb-true}
use Rattle.std.proofs.Math.Nat.{pow-succ'}
use Rattle.std.proofs.lemmas.Bool.{lt-leb}
use Rattle.rules.specs.declared.Rule.{Rule}
use Rattle.rules.specs.Bounds.{zone_count}
use Rattle.rules.specs.InBounds.{InBounds, AllInBounds}
use Rattle.rules.specs.Mask.{mask_of}
use Rattle.rules.specs.ZoneSet.{in_zone_set}
use Rattle.window.specs.Window.{max_age, window_base, hits_up_to, remembered, next_window, window_holds, valid_window}
use Rattle.window.specs.WindowLaws.{live_le}
use Rattle.window.specs.ForgetLaws.{live_again, hits_fewer, hits_no_older, hits_first}
use Rattle.window.specs.State.{empty_state, valid_state, holding, state_mask, next_state}
use Rattle.window.specs.Settled.{CanBeGiven}
use Rattle.window.specs.StateLaws.{window_small}
use Rattle.rules.specs.MaskLaws.{bit_zero}
use Rattle.rules.specs.TestLaws.{both}
use Rattle.window.proofs.RowLaws.{young, digit, digits, valid_of_row, empty_row_state, empty_row_mask}

-- ---- one rule

third : (x y z : Bool) → cond x false (cond y z false) ≡ true → z ≡ true
third true y z e = let n : ◌≡◌ {A = ℕ} 0 1 = cc in absurd (omega arith)
third false true z e = e
third false false z e = let n : ◌≡◌ {A = ℕ} 0 1 = cc in absurd (omega arith)

below_pow : (w n : ℕ) → w / 2 ^ n ≡ 0 → w < 2 ^ n
below_pow w n e = let p = div-lt_iff_lt-mul {k = 2 ^ n} {x = w} {y = 1} (pow_pos n) in omega (arith, p.0 (omega arith))

hits_mono : (n j w : ℕ) → n ≤ j → hits_up_to n w ≤ hits_up_to j w
unfolding hits_up_to
hits_mono zero j w h = omega arith
hits_mono (suc n) zero w h = absurd (omega arith)
hits_mono (suc n) (suc j) w h = omega (arith, hits_mono n j (w / 2) (omega arith))

-- a window that can be given leads to one that can be given, where the rule does not hold
window_next_valid : (r : Rule) → InBounds r → (count w z : ℕ) → valid_window count r w ≡ true → window_holds r w z ≡ false → valid_window (count + 1) r (next_window r w z) ≡ true
window_next_valid r bounds count w z v e =
    let n = r.m - 1 in
    let h = in_zone_set r.zones z in
    let x = h + 2 * w in
    let young-before : w < 2 ^ min count max_age = below_pow w (min count max_age) (eqb-true (w / 2 ^ min count max_age) 0 (third (leb r.k (hits_up_to max_age w)) (eqb (remembered r w) w) (eqb (w / 2 ^ min count max_age) 0) v)) in
    let counted : w < 2 ^ count = lt_of_lt_of_le young-before (pow_mono {i = min count max_age} {j = count} (omega arith)) in
    let p : 2 ^ (count + 1) ≡ 2 * 2 ^ count = ap (λ (t : ℕ). 2 ^ t) (add-one count) ∙ pow-succ' 2 count in
    rw (
      lt-leb r.k (hits_up_to max_age (next_window r w z)) (omega (
        arith,
        leb-false r.k (h + hits_up_to max_age w) e,
        hits_no_older r.k 0 n max_age x (omega arith),
        hits_fewer r.k 0 n x,
        hits_mono n (suc max_age) x (omega arith),
        hits_first max_age h w (omega arith),
      )),
      eq-eqb (remembered r (next_window r w z)) (next_window r w z) (live_again r.k 0 0 n n x (omega arith) (omega arith)),
      eq-eqb (next_window r w z / 2 ^ min (count + 1) max_age) 0
          (young (next_window r w z) (count + 1) (lt_of_le_of_lt (live_le r.k 0 n x) (omega arith)) (window_small r w z bounds)),
    )

-- ---- all rules

-- a quiet point leads from a state that can be given to one that can be given with one more point counted
pub valid_next : (rs : List Rule) → AllInBounds rs → (count s z : ℕ) → z < zone_count → valid_state count rs s ≡ true → state_mask rs s z ≡ 0 → valid_state (count + 1) rs (next_state rs s z) ≡ true
unfolding AllInBounds valid_state mask_of holding next_state
valid_next [] p count s z zone v e = refl
valid_next (r ∷ rs) p count s z zone v e =
    let w = s % window_base in
    let q = window_small r w z p.0 in
    let b = both (valid_window count r w) (valid_state count rs (s / window_base)) v in
    let f = bit_zero (window_holds r w z) (state_mask rs (s / window_base) z) e in
    rw (
      digit (next_window r w z) (next_state rs (s / window_base) z) q,
      digits (next_window r w z) (next_state rs (s / window_base) z) q,
      window_next_valid r p.0 count w z b.0 f.0,
      valid_next rs p.1 count (s / window_base) z zone b.1 f.1,
    )

-- the empty state can be given with no point counted
pub fresh_valid : (rs : List Rule) → AllInBounds rs → valid_state 0 rs 0 ≡ true
fresh_valid rs p = ap (λ (s : ℕ). valid_state 0 rs s) (sym (empty_row_state rs)) ∙ valid_of_row rs p [] (empty_row_mask rs p)

-- the empty state can be given
pub empty_given : (rs : List Rule) → AllInBounds rs → CanBeGiven rs empty_state
empty_given rs p = record { count = 0; valid = fresh_valid rs p }

-- so can a state after a quiet point, where the one before it can
pub quiet_given : (rs : List Rule) → AllInBounds rs → (s z : ℕ) → z < zone_count → CanBeGiven rs s → state_mask rs s z ≡ 0
    → CanBeGiven rs (next_state rs s z)
quiet_given rs p s z zone g e =
    record { count = g.count + 1; valid = valid_next rs p g.count s z zone g.valid e }
