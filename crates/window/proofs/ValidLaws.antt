-- When a window can be given, and a whole state, age by age: the conditions of refusal 5 in document 01's words. Laws.
use Rattle.std.specs.Prelude.{◌≡◌, refl, Bool, true, false, cond, ◌⊎◌, ◌↔◌, leb, eqb, length, get_or}
use Rattle.std.proofs.Math.Path.{sym, ap}
use Rattle.std.proofs.Common.{◌∙◌, ⊎_elim, inl, inr, eq-zero-or-pos, div-le_self, arith, pow-add}
use mathlib.Core.List.{List, [], ◌∷◌}
use Prim.Native.Nat.{ℕ, zero, suc, ◌+◌, ◌-◌, ◌*◌, ◌/◌, ◌%◌, ◌^◌, ◌≤◌, ◌<◌, min}
use Rattle.std.proofs.Math.Nat.{div-div-eq-div-mul, pow-succ', div-eq_of_lt, zero-div}
use borrow.Author.Tests.{le-leb, lt-leb, leb-true, leb-false, eq-eqb, eqb-true}
use Rattle.rules.specs.declared.Rule.{Rule}
use Rattle.rules.specs.Check.{no_rule}
use Rattle.window.specs.Window.{max_age, window_base, hit_of_age, hits_up_to, remembered, valid_window}
use Rattle.window.specs.State.{valid_state}
use Rattle.rules.specs.TestLaws.{both}
use Rattle.window.specs.CanStand.{Kept, WindowCanStand, window_at, StateCanStand}
use Rattle.window.specs.WindowLaws.{le_or_lt, live_le, remembered_age}

-- ---- numbers with the same digits are equal

same_digits : (n v w : ℕ) → v < 2 ^ n → w < 2 ^ n → ((i : ℕ) → v / 2 ^ i % 2 ≡ w / 2 ^ i % 2) → v ≡ w
same_digits zero v w a b e = omega arith
same_digits (suc n) v w a b e =
    let p : 2 ^ suc n ≡ 2 * 2 ^ n = pow-succ' 2 n in
    let h : v / 2 ≡ w / 2 = same_digits n (v / 2) (w / 2) (omega arith) (omega arith) (λ i. next v i ∙ e (suc i) ∙ sym (next w i)) in
    omega (arith, e 0)
  where
    next : (x i : ℕ) → x / 2 / 2 ^ i % 2 ≡ x / 2 ^ suc i % 2
    next x i = ap (λ (t : ℕ). t % 2) (div-div-eq-div-mul x 2 (2 ^ i) ∙ ap (λ (t : ℕ). x / t) (sym (pow-succ' 2 i)))

bit_cases : (x : ℕ) → x < 2 → (x ≡ 0) ⊎ (x ≡ 1)
bit_cases x h = ⊎_elim (λ (e : x ≡ 0). inl e) (λ (p : 0 < x). inr (omega arith)) (eq-zero-or-pos x)

-- ---- the second test: nothing would be forgotten

module _ (r : Rule) (w : ℕ) where
  kept_hit : remembered r w ≡ w → (a : ℕ) → 1 ≤ a → hit_of_age a w ≡ 1 → Kept r w a
  kept_hit e a h q = go (leb a (r.m - 1)) refl (leb r.k (hits_up_to a w + (r.m - a))) refl (sym (remembered_age r w a h) ∙ ap (hit_of_age a) e ∙ q)
    where
      go : (x : Bool) → leb a (r.m - 1) ≡ x → (y : Bool) → leb r.k (hits_up_to a w + (r.m - a)) ≡ y → cond x (cond y (hit_of_age a w) 0) 0 ≡ 1
          → Kept r w a
      go true ex true ey s = record { in_window = leb-true a (r.m - 1) ex; needed = leb-true r.k (hits_up_to a w + (r.m - a)) ey }
      go true ex false ey s = absurd (omega arith)
      go false ex y ey s = absurd (omega arith)

  kept_all : w < window_base → ((a : ℕ) → 1 ≤ a → hit_of_age a w ≡ 1 → Kept r w a) → remembered r w ≡ w
  kept_all b f = same_digits max_age (remembered r w) w (omega (arith, live_le r.k 0 (r.m - 1) w)) b at
    where
      at : (i : ℕ) → remembered r w / 2 ^ i % 2 ≡ w / 2 ^ i % 2
      at i =
          let e : suc i - 1 ≡ i = omega arith in
          let d : hit_of_age (suc i) (remembered r w) ≡ hit_of_age (suc i) w = remembered_age r w (suc i) (omega arith) ∙ ⊎_elim
          (λ (z : hit_of_age (suc i) w ≡ 0). rw z (nought (leb (suc i) (r.m - 1)) (leb r.k (hits_up_to (suc i) w + (r.m - suc i)))))
          (λ (z : hit_of_age (suc i) w ≡ 1). let p = f (suc i) (omega arith) z in rw (le-leb (suc i) (r.m - 1) p.in_window, le-leb r.k (hits_up_to (suc i) w + (r.m - suc i)) p.needed))
          (bit_cases (hit_of_age (suc i) w) (omega arith)) in
          rw e at d
        where
          nought : (x y : Bool) → cond {A = ℕ} x (cond y 0 0) 0 ≡ 0
          nought true true = refl
          nought true false = refl
          nought false y = refl

-- ---- the third test: no hit is older than the points counted

digit_on : (w c d : ℕ) → w / 2 ^ c / 2 ^ d ≡ w / 2 ^ (c + d)
digit_on w c d = div-div-eq-div-mul w (2 ^ c) (2 ^ d) ∙ ap (λ (t : ℕ). w / t) (sym (pow-add 2 c d))

module _ (count w : ℕ) where
  young_hit : w / 2 ^ min count max_age ≡ 0 → (a : ℕ) → 1 ≤ a → hit_of_age a w ≡ 1 → a ≤ count
  young_hit e a h q = ⊎_elim (λ (y : a ≤ count). y) (λ (y : count < a). absurd (older y)) (le_or_lt a count)
    where
      older : count < a → ⊥
      older y =
          let c = min count max_age in
          let d = a - 1 - c in
          let s : c + d ≡ a - 1 = omega arith in
          let z : w / 2 ^ (a - 1) ≡ 0 = ap (λ (t : ℕ). w / 2 ^ t) (sym s) ∙ sym (digit_on w c d) ∙ ap (λ (t : ℕ). t / 2 ^ d) e ∙ zero-div (2 ^ d) in
          omega (arith, ap (λ (t : ℕ). t % 2) z)

  young_all : w < window_base → ((a : ℕ) → 1 ≤ a → hit_of_age a w ≡ 1 → a ≤ count) → w / 2 ^ min count max_age ≡ 0
  young_all b f =
      ⊎_elim
      (λ (p : count ≤ max_age). let e : min count max_age ≡ count = omega arith in rw e (same_digits max_age (w / 2 ^ count) 0 (omega (arith, div-le_self w (2 ^ count))) (omega arith) none))
      (λ (p : max_age < count). let e : min count max_age ≡ max_age = omega arith in rw e (div-eq_of_lt {n = w} {m = window_base} b))
      (le_or_lt count max_age)
    where
      none : (i : ℕ) → w / 2 ^ count / 2 ^ i % 2 ≡ 0 / 2 ^ i % 2
      none i =
          let n : 0 / 2 ^ i ≡ 0 = zero-div (2 ^ i) in
          let s : suc (count + i) - 1 ≡ count + i = omega arith in
          let d : hit_of_age (suc (count + i)) w ≡ w / 2 ^ count / 2 ^ i % 2 = ap (λ (t : ℕ). w / 2 ^ t % 2) s ∙ ap (λ (t : ℕ). t % 2) (sym (digit_on w count i)) in
          ⊎_elim
          (λ (z : hit_of_age (suc (count + i)) w ≡ 0). sym d ∙ z ∙ sym (ap (λ (t : ℕ). t % 2) n))
          (λ (z : hit_of_age (suc (count + i)) w ≡ 1). absurd (let y = f (suc (count + i)) (omega arith) z in omega arith))
          (bit_cases (hit_of_age (suc (count + i)) w) (omega arith))

-- ---- the three tests together

module _ (count : ℕ) (r : Rule) (w : ℕ) (small : w < window_base) where
  stands : valid_window count r w ≡ true → WindowCanStand count r w
  stands e = go (leb r.k (hits_up_to max_age w)) refl (eqb (remembered r w) w) refl (eqb (w / 2 ^ min count max_age) 0) refl e
    where
      go : (x : Bool) → leb r.k (hits_up_to max_age w) ≡ x → (y : Bool) → eqb (remembered r w) w ≡ y → (z : Bool) → eqb (w / 2 ^ min count max_age) 0 ≡ z
          → cond x false (cond y z false) ≡ true → WindowCanStand count r w
      go false ex true ey true ez q =
          record {
            few = leb-false r.k (hits_up_to max_age w) ex;
            kept = kept_hit r w (eqb-true (remembered r w) w ey);
            counted = young_hit count w (eqb-true (w / 2 ^ min count max_age) 0 ez);
          }
      go true ex y ey z ez q = let n : ◌≡◌ {A = ℕ} 0 1 = cc in absurd (omega arith)
      go false ex false ey z ez q = let n : ◌≡◌ {A = ℕ} 0 1 = cc in absurd (omega arith)
      go false ex true ey false ez q = let n : ◌≡◌ {A = ℕ} 0 1 = cc in absurd (omega arith)

  valid : WindowCanStand count r w → valid_window count r w ≡ true
  valid g = rw (
    lt-leb r.k (hits_up_to max_age w) g.few,
    eq-eqb (remembered r w) w (kept_all r w small g.kept),
    eq-eqb (w / 2 ^ min count max_age) 0 (young_all count w small g.counted),
  )

  -- a window passes exactly when document 01's conditions for 5 do not hold of it
  pub valid_exactly : (valid_window count r w ≡ true) ↔ WindowCanStand count r w
  valid_exactly = (stands, valid)

-- ---- a whole state, rule by rule

window_first : (s : ℕ) → window_at 0 s ≡ s % window_base
window_first s = omega arith

window_later : (i s : ℕ) → window_at (suc i) s ≡ window_at i (s / window_base)
window_later i s =
    ap (λ (t : ℕ). s / t % window_base) (pow-succ' window_base i)
    ∙ ap (λ (t : ℕ). t % window_base) (sym (div-div-eq-div-mul s window_base (window_base ^ i)))

window_none : (i : ℕ) → window_at i 0 ≡ 0
window_none i = ap (λ (t : ℕ). t % window_base) (zero-div (window_base ^ i))

-- a state in which every window is empty
below_power : (s : ℕ) → s < window_base ^ s
below_power zero = omega arith
below_power (suc s) = omega (arith, below_power s, pow-succ' window_base s)

all_empty : (n s : ℕ) → s < window_base ^ n → ((i : ℕ) → window_at i s ≡ 0) → s ≡ 0
all_empty zero s h e = omega arith
all_empty (suc n) s h e =
    let z : s / window_base ≡ 0 = all_empty n (s / window_base) (omega (arith, pow-succ' window_base n)) (λ i. sym (window_later i s) ∙ e (suc i)) in
    omega (arith, e 0)

-- a window with no hit is empty
no_hit : (w : ℕ) → w < window_base → ((a : ℕ) → 1 ≤ a → hit_of_age a w ≡ 0) → w ≡ 0
no_hit w h f = same_digits max_age w 0 h (omega arith) none
  where
    none : (i : ℕ) → w / 2 ^ i % 2 ≡ 0 / 2 ^ i % 2
    none i =
        let e : suc i - 1 ≡ i = omega arith in
        ap (λ (t : ℕ). w / 2 ^ t % 2) (sym e) ∙ f (suc i) (omega arith) ∙ sym (ap (λ (t : ℕ). t % 2) (zero-div (2 ^ i)))

same_window : {count : ℕ} {r : Rule} {v w : ℕ} → v ≡ w → WindowCanStand count r w → WindowCanStand count r v
same_window e g = rw e g

module _ (count : ℕ) where
  windows_stand : (rs : List Rule) (s : ℕ) → valid_state count rs s ≡ true → (i : ℕ) → i < length rs → WindowCanStand count (get_or rs i no_rule) (window_at i s)
  unfolding valid_state
  windows_stand [] s e i h = absurd (omega arith)
  windows_stand (r ∷ rs) s e zero h =
      let b = both (valid_window count r (s % window_base)) (valid_state count rs (s / window_base)) e in
      same_window (window_first s) (stands count r (s % window_base) (omega arith) b.0)
  windows_stand (r ∷ rs) s e (suc i) h =
      let b = both (valid_window count r (s % window_base)) (valid_state count rs (s / window_base)) e in
      same_window (window_later i s) (windows_stand rs (s / window_base) b.1 i (omega arith))

  windows_beyond : (rs : List Rule) (s : ℕ) → valid_state count rs s ≡ true → (i : ℕ) → length rs ≤ i → window_at i s ≡ 0
  unfolding valid_state
  windows_beyond [] s e i h = ap (window_at i) (eqb-true s 0 e) ∙ window_none i
  windows_beyond (r ∷ rs) s e zero h = absurd (omega arith)
  windows_beyond (r ∷ rs) s e (suc i) h =
      let b = both (valid_window count r (s % window_base)) (valid_state count rs (s / window_base)) e in
      window_later i s ∙ windows_beyond rs (s / window_base) b.1 i (omega arith)

  windows_valid : (rs : List Rule) (s : ℕ) → ((i : ℕ) → i < length rs → WindowCanStand count (get_or rs i no_rule) (window_at i s))
      → ((i : ℕ) → length rs ≤ i → window_at i s ≡ 0) → valid_state count rs s ≡ true
  unfolding valid_state
  windows_valid [] s g f = eq-eqb s 0 (all_empty s s (below_power s) (λ i. f i (omega arith)))
  windows_valid (r ∷ rs) s g f =
      let first = valid count r (s % window_base) (omega arith) (same_window (sym (window_first s)) (g 0 (omega arith))) in
      let later = windows_valid rs (s / window_base)
      (λ i h. same_window (sym (window_later i s)) (g (suc i) (omega arith)))
      (λ i h. sym (window_later i s) ∙ f (suc i) (omega arith)) in
      rw (first, later)

  -- A state passes exactly when none of the four conditions of refusal 5 holds of it.
  pub state_exactly : (rs : List Rule) (s : ℕ) → (valid_state count rs s ≡ true) ↔ StateCanStand count rs s
  state_exactly rs s = (to, from)
    where
      to : valid_state count rs s ≡ true → StateCanStand count rs s
      to e =
          let g = windows_stand rs s e in
          record {
            few = λ i h. (g i h).few;
            kept = λ i a h p q. (g i h).kept a p q;
            counted = λ i a h p q. (g i h).counted a p q;
            none_beyond = λ i a h p. ap (hit_of_age a) (windows_beyond rs s e i h) ∙ ap (λ (t : ℕ). t % 2) (zero-div (2 ^ (a - 1)));
          }

      from : StateCanStand count rs s → valid_state count rs s ≡ true
      from t =
          windows_valid rs s
          (λ i h. record { few = t.few i h; kept = λ a p q. t.kept i a h p q; counted = λ a p q. t.counted i a h p q })
          (λ i h. no_hit (window_at i s) (omega arith) (λ a p. t.none_beyond i a h p))
