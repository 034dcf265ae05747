-- Laws of a window that can be given: one more hit moves it up, and only a hit can make its rule hold.
use Rattle.std.specs.Prelude.{◌≡◌, refl, Bool, true, false, cond, List, ℕ, zero, suc, ◌+◌, ◌-◌, ◌*◌, ◌/◌, ◌%◌, ◌^◌, ◌≤◌, ◌<◌, min, leb, eqb, get_or}
use Rattle.std.proofs.Common.{sym, ap, ◌∙◌, arith, pow_pos, le-leb, leb-false, eqb-true}
use Rattle.std.proofs.Math.Nat.{pow-succ'}
use Rattle.std.proofs.Math.Arith.{mod-mul}
use Rattle.std.proofs.lemmas.Bool.{lt-leb, eqb-false}
use Rattle.rules.specs.declared.Rule.{Rule}
use Rattle.rules.specs.InBounds.{InBounds}
use Rattle.rules.specs.TestLaws.{both}
use Rattle.rules.specs.Check.{no_rule, rules_from}
use Rattle.rules.specs.ZoneSet.{in_zone_set}
use Rattle.window.specs.Window.{max_age, window_base, hits_up_to, live_hit, live, remembered, next_window, window_holds, valid_window}
use Rattle.window.specs.WindowLaws.{cond_le}
use Rattle.window.specs.ForgetLaws.{live_first, live_zero}
use Rattle.window.specs.State.{valid_state}
use Rattle.window.specs.StateLaws.{windows_on, valid_cons, window_small}
use Rattle.window.specs.Settled.{Settled, windows_from}

-- ---- a window that can be given is settled

settled : (count : ℕ) (r : Rule) (w : ℕ) → valid_window count r w ≡ true → Settled r w
settled count r w e = go (leb r.k (hits_up_to max_age w)) refl (eqb (remembered r w) w) refl e
  where
    go : (x : Bool) → leb r.k (hits_up_to max_age w) ≡ x → (y : Bool) → eqb (remembered r w) w ≡ y
        → cond x false (cond y (eqb (w / 2 ^ min count max_age) 0) false) ≡ true → Settled r w
    go false ex true ey q = record { few = leb-false r.k (hits_up_to max_age w) ex; kept = eqb-true (remembered r w) w ey }
    go true ex y ey q = let n : ◌≡◌ {A = ℕ} 0 1 = cc in absurd (omega arith)
    go false ex false ey q = let n : ◌≡◌ {A = ℕ} 0 1 = cc in absurd (omega arith)

module _ (slots : List Rule) (n count s : ℕ) where
  valid_from : (i : ℕ) → i ≤ n → valid_state count (rules_from n 0 slots) s ≡ true → valid_state count (rules_from (n - i) i slots) (windows_from i s) ≡ true
  valid_from zero h v =
      let e : n - 0 ≡ n = omega arith in
      let d : windows_from 0 s ≡ s = omega arith in
      rw (e, d) v
  valid_from (suc i) h v =
      let e : suc i ≡ i + 1 = omega arith in
      let b = both (valid_window count (get_or slots i no_rule) (windows_from i s % window_base)) (valid_state count (rules_from (n - (i + 1)) (i + 1) slots) (windows_from i s / window_base))
      (sym (valid_cons slots n i (omega arith) count (windows_from i s)) ∙ valid_from i (omega arith) v) in
      rw e (rw (windows_on i s) at b.1)

  -- each rule's window in a state that can be given
  pub settled_at : (i : ℕ) → i < n → valid_state count (rules_from n 0 slots) s ≡ true → Settled (get_or slots i no_rule) (windows_from i s % window_base)
  settled_at i h v =
      settled count (get_or slots i no_rule) (windows_from i s % window_base)
      (both (valid_window count (get_or slots i no_rule) (windows_from i s % window_base)) (valid_state count (rules_from (n - (i + 1)) (i + 1) slots) (windows_from i s / window_base))
      (sym (valid_cons slots n i h count (windows_from i s)) ∙ valid_from i (omega arith) v)).0

-- ---- one more hit

-- the low digits of a number: its last, and those of its half
low_digits : (w n : ℕ) → w % 2 ^ suc n ≡ w % 2 + 2 * (w / 2 % 2 ^ n)
low_digits w n =
    let power : 2 ^ suc n ≡ 2 ^ n * 2 = omega (arith, pow-succ' 2 n) in
    rw power (omega (arith, mod-mul w {m = 2 ^ n} {c = 2} (pow_pos n) (omega arith)))

-- what is remembered whole stays so with one more hit and one point less of room, but for what leaves the room
one_more : (k c n w : ℕ) → live k c (suc n) w ≡ w → live k (suc c) n w ≡ w % 2 ^ n
unfolding live
one_more k c zero w e = omega arith
one_more k c (suc n) w e =
    let p = cond_le (leb k (c + w % 2 + suc (suc n))) (w % 2) in
    let first : live_hit k (c + w % 2) (suc (suc n)) (w % 2) ≡ w % 2 = omega arith in
    let rest : live k (c + w % 2) (suc n) (w / 2) ≡ w / 2 = omega arith in
    let same : suc c + w % 2 + suc n ≡ c + w % 2 + suc (suc n) = omega arith in
    let more : suc (c + w % 2) ≡ suc c + w % 2 = omega arith in
    let older = rw more at (one_more k (c + w % 2) n (w / 2) rest) in
    rw (same, first, older) (sym (low_digits w n))

-- a hit moves the window up by one age; the oldest age leaves it
hit_moves : (r : Rule) (w : ℕ) → InBounds r → Settled r w → remembered r (1 + 2 * w) ≡ (1 + 2 * w) % 2 ^ (r.m - 1)
unfolding live
hit_moves r w bounds t = go (r.m - 1) t.kept refl
  where
    go : (n : ℕ) → live r.k 0 n w ≡ w → r.m - 1 ≡ n → live r.k 0 n (1 + 2 * w) ≡ (1 + 2 * w) % 2 ^ n
    go zero e m = omega arith
    go (suc n) e m =
        let last : (1 + 2 * w) % 2 ≡ 1 = omega arith in
        let half : (1 + 2 * w) / 2 ≡ w = omega arith in
        live_first r.k 0 n 1 w (omega arith)
        ∙ rw (le-leb r.k (0 + 1 + suc n) (omega arith), one_more r.k 0 n w e) (sym (low_digits (1 + 2 * w) n ∙ rw (last, half)))

-- ---- the three ways that a point moves a settled window

module _ (r : Rule) (w z : ℕ) (bounds : InBounds r) (t : Settled r w) where
  module _ (hit : true ≡ eqb (in_zone_set r.zones z) 1) where
    a_hit : in_zone_set r.zones z ≡ 1
    a_hit = eqb-true (in_zone_set r.zones z) 1 (sym hit)

    pub hit_holds : leb r.k (1 + hits_up_to max_age w) ≡ window_holds r w z
    hit_holds = rw a_hit

    pub hit_next : (1 + 2 * w) % 2 ^ (r.m - 1) ≡ next_window r w z
    hit_next = sym (ap (λ (h : ℕ). remembered r (h + 2 * w)) a_hit ∙ hit_moves r w bounds t)

  module _ (miss : false ≡ eqb (in_zone_set r.zones z) 1) where
    no_hit : in_zone_set r.zones z ≡ 0
    no_hit = omega (arith, eqb-false (in_zone_set r.zones z) 1 (sym miss))

    pub miss_holds : false ≡ window_holds r w z
    miss_holds = rw (no_hit, lt-leb r.k (0 + hits_up_to max_age w) (omega (arith, t.few)))

    pub miss_next : remembered r (2 * w) ≡ next_window r w z
    miss_next = let d : 0 + 2 * w ≡ 2 * w = omega arith in rw (no_hit, d)

    pub miss_small : remembered r (2 * w) < window_base
    miss_small = omega (arith, miss_next, window_small r w z bounds)

    pub miss_empty : w ≡ 0 → w ≡ next_window r w z
    miss_empty q = rw (no_hit, q) (sym (live_zero r.k 0 (r.m - 1)))
