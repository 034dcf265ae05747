-- Laws of the state, one rule at a time, for the rules from i up to n in the slots; bounds, and the move by a point.
use Rattle.std.specs.Prelude.{◌≡◌, refl, Bool, true, false, cond, List, ℕ, zero, suc, ◌+◌, ◌-◌, ◌*◌, ◌/◌, ◌%◌, ◌^◌, ◌≤◌, ◌<◌, get_or, take, eqb}
use Rattle.std.proofs.Common.{sym, ap, ◌∙◌, lt_of_lt_of_le, arith, pow_mono, shr-shr}
use Rattle.std.proofs.Math.Nat.{pow-le-pow_right, pow-succ'}
use Rattle.std.proofs.lemmas.List.{get_or-take}
use Rattle.std.specs.Int.{from_bool}
use Rattle.rules.specs.declared.Rule.{Rule}
use Rattle.rules.specs.Bounds.{max_rules}
use Rattle.rules.specs.Check.{no_rule, rules_from}
use Rattle.rules.proofs.CheckLaws.{rules_cons, rules_none}
use Rattle.rules.specs.InBounds.{InBounds, AllInBounds}
use Rattle.rules.specs.Mask.{bit, mask_of}
use Rattle.rules.specs.ZoneSet.{in_zone_set}
use Rattle.window.specs.Window.{max_age, window_base, next_window, window_holds, valid_window}
use Rattle.window.specs.WindowLaws.{live_lt}
use Rattle.window.specs.State.{valid_state, holding, state_mask, next_state}
use Rattle.window.specs.Settled.{windows_from, MovedFrom}

module _ (slots : List Rule) (n i : ℕ) (h : i < n) where
  abbrev here : Rule
  here = get_or slots i no_rule

  abbrev later : List Rule
  later = rules_from (n - (i + 1)) (i + 1) slots

  pub valid_cons : (count s : ℕ) → valid_state count (rules_from (n - i) i slots) s ≡ cond (valid_window count here (s % window_base)) (valid_state count later (s / window_base)) false
  unfolding valid_state
  valid_cons count s = rw (rules_cons slots n i h)

  mask_cons : (s z : ℕ) → state_mask (rules_from (n - i) i slots) s z
      ≡ bit (window_holds here (s % window_base) z) + 2 * state_mask later (s / window_base) z
  unfolding mask_of holding
  mask_cons s z = rw (rules_cons slots n i h)

  next_cons : (s z : ℕ) → next_state (rules_from (n - i) i slots) s z
      ≡ next_window here (s % window_base) z + window_base * next_state later (s / window_base) z
  unfolding next_state
  next_cons s z = rw (rules_cons slots n i h)

  pub bounds_cons : AllInBounds (rules_from (n - i) i slots) → InBounds here × AllInBounds later
  unfolding AllInBounds
  bounds_cons p = rw (rules_cons slots n i h) at p

  -- the first of them, as an item of the slice of the first n
  taken : get_or (take n slots) i no_rule ≡ here
  taken = get_or-take n slots i no_rule h

  pub bounds_item : AllInBounds (rules_from (n - i) i slots) → InBounds (get_or (take n slots) i no_rule)
  bounds_item p = rw taken (bounds_cons p).0

  module _ (count s : ℕ) where
    pub valid_not : false ≡ valid_window count (get_or (take n slots) i no_rule) (s % window_base)
        → false ≡ valid_state count (rules_from (n - i) i slots) s
    valid_not e = sym (valid_cons count s ∙ rw (← taken, ← e))

    pub valid_on : true ≡ valid_window count (get_or (take n slots) i no_rule) (s % window_base)
        → valid_state count (rules_from (n - i) i slots) s ≡ valid_state count later (s / window_base)
    valid_on e = valid_cons count s ∙ rw (← taken, ← e)

module _ (slots : List Rule) (n i : ℕ) (h : n ≤ i) where
  pub valid_none : (count s : ℕ) → valid_state count (rules_from (n - i) i slots) s ≡ eqb s 0
  unfolding valid_state
  valid_none count s = rw (rules_none slots n i h)

  mask_none : (s z : ℕ) → state_mask (rules_from (n - i) i slots) s z ≡ 0
  unfolding mask_of holding
  mask_none s z = rw (rules_none slots n i h)

  next_none : (s z : ℕ) → next_state (rules_from (n - i) i slots) s z ≡ 0
  unfolding next_state
  next_none s z = rw (rules_none slots n i h)

-- ---- the windows from i on

pub windows_on : (i s : ℕ) → windows_from i s / window_base ≡ windows_from (i + 1) s
windows_on i s = let e : max_age * i + max_age ≡ max_age * (i + 1) = omega arith in shr-shr s (max_age * i) max_age ∙ ap (λ (t : ℕ). s / 2 ^ t) e

-- the rules from any place on are in bounds where all are
pub bounds_from : (slots : List Rule) (n i : ℕ) → i ≤ n → AllInBounds (rules_from n 0 slots) → AllInBounds (rules_from (n - i) i slots)
bounds_from slots n zero h p = let e : n - 0 ≡ n = omega arith in rw e p
bounds_from slots n (suc i) h p = let e : suc i ≡ i + 1 = omega arith in rw e (bounds_cons slots n i (omega arith) (bounds_from slots n i (omega arith) p)).1

-- ---- bounds: a mask has a bit a rule, a window fits its digit, a state its number

pub bit_le : (t : Bool) → bit t ≤ 1
bit_le true = omega arith
bit_le false = omega arith

bit_from : (t : Bool) → from_bool t ≡ bit t
bit_from true = refl
bit_from false = refl

mask_lt : (n i : ℕ) (slots : List Rule) (s z : ℕ) → state_mask (rules_from n i slots) s z < 2 ^ n
unfolding mask_of holding rules_from
mask_lt zero i slots s z = omega arith
mask_lt (suc n) i slots s z = omega (arith, mask_lt n (i + 1) slots (s / window_base) z, bit_le (window_holds (get_or slots i no_rule) (s % window_base) z))

mask_small : (n i : ℕ) (slots : List Rule) (s z : ℕ) → n ≤ max_rules → state_mask (rules_from n i slots) s z < 2 ^ max_rules
mask_small n i slots s z h = lt_of_lt_of_le (mask_lt n i slots s z) (pow_mono {i = n} {j = max_rules} h)

pub window_small : (r : Rule) (w z : ℕ) → InBounds r → next_window r w z < window_base
window_small r w z h = lt_of_lt_of_le (live_lt r.k 0 (r.m - 1) (in_zone_set r.zones z + 2 * w)) (pow_mono {i = r.m - 1} {j = max_age} (omega arith))

next_lt : (n i : ℕ) (slots : List Rule) (s z : ℕ) → AllInBounds (rules_from n i slots) → next_state (rules_from n i slots) s z < window_base ^ n
unfolding next_state rules_from AllInBounds
next_lt zero i slots s z h = omega arith
next_lt (suc n) i slots s z h =
    let e : window_base ^ suc n ≡ window_base * window_base ^ n = pow-succ' window_base n in
    omega (arith, next_lt n (i + 1) slots (s / window_base) z h.1, window_small (get_or slots i no_rule) (s % window_base) z h.0)

next_small : (k n i : ℕ) (slots : List Rule) (s z : ℕ) → n ≤ k → AllInBounds (rules_from n i slots)
    → next_state (rules_from n i slots) s z < window_base ^ k
next_small k n i slots s z h p = lt_of_lt_of_le (next_lt n i slots s z p) (pow-le-pow_right {n = window_base} (omega arith) {i = n} {j = k} h)

-- ---- the rules moved by a point, from the last to the first

-- at first none is
pub moved_none : (slots : List Rule) (n s z : ℕ) → MovedFrom slots n s z n 0 0
moved_none slots n s z =
    let h : n ≤ n = omega arith in
    record {
      at_most = h;
      mask_is = sym (mask_none slots n n h (windows_from n s) z);
      next_is = sym (next_none slots n n h (windows_from n s) z);
    }

module _ {slots : List Rule} {n s z i mask next : ℕ} (p : MovedFrom slots n s z i mask next) where
  -- there is room for one rule more
  pub moved_fits : n ≤ max_rules → AllInBounds (rules_from n 0 slots) → 0 < i
      → (mask < 2 ^ max_rules) × (next < window_base ^ (max_rules - 1))
  moved_fits few bounds some = (
    rw p.mask_is (mask_small (n - i) i slots (windows_from i s) z (omega arith)),
    rw p.next_is
        (next_small (max_rules - 1) (n - i) i slots (windows_from i s) z (omega (arith, p.at_most)) (bounds_from slots n i p.at_most bounds)),
  )

  -- a mask and a state have room for them
  pub moved_within : n ≤ max_rules → AllInBounds (rules_from n 0 slots) → (mask < 2 ^ max_rules) × (next < window_base ^ max_rules)
  moved_within few bounds = (
    rw p.mask_is (mask_small (n - i) i slots (windows_from i s) z (omega arith)),
    rw p.next_is (next_small max_rules (n - i) i slots (windows_from i s) z (omega arith) (bounds_from slots n i p.at_most bounds)),
  )

  -- rule i - 1 before those from i on
  module _ (some : 0 < i) where
    abbrev rule : Rule
    rule = get_or slots (i - 1) no_rule

    rest : (f : List Rule → ℕ → ℕ)
        → f (rules_from (n - (i - 1 + 1)) (i - 1 + 1) slots) (windows_from (i - 1) s / window_base)
        ≡ f (rules_from (n - i) i slots) (windows_from i s)
    rest f = let e : i - 1 + 1 ≡ i = omega arith in rw (windows_on (i - 1) s, e)

    -- its window w, whether it holds, and its next window
    module _ {t : Bool} {w x y : ℕ} (w-is : w ≡ windows_from (i - 1) s % window_base) (x-is : x ≡ from_bool t)
        (m : (t ≡ window_holds rule w z) × (y ≡ next_window rule w z)) where
      pub moved_more : MovedFrom slots n s z (i - 1) (x + 2 * mask) (y + window_base * next)
      moved_more =
          let h : i - 1 < n = omega (arith, p.at_most) in
          let bit-is : x ≡ bit (window_holds rule (windows_from (i - 1) s % window_base) z) = cc (bit_from t) in
          let next-is : y ≡ next_window rule (windows_from (i - 1) s % window_base) z = cc in
          record {
            at_most = omega arith;
            mask_is = omega (
              arith,
              mask_cons slots n (i - 1) h (windows_from (i - 1) s) z,
              rest (λ (rs : List Rule) (t : ℕ). state_mask rs t z),
            );
            next_is = omega (
              arith,
              next_cons slots n (i - 1) h (windows_from (i - 1) s) z,
              rest (λ (rs : List Rule) (t : ℕ). next_state rs t z),
            );
          }

  -- at the first rule all are
  pub moved_all : i ≡ 0 → (mask ≡ state_mask (rules_from n 0 slots) s z) × (next ≡ next_state (rules_from n 0 slots) s z)
  moved_all e =
      let n-is : n - 0 ≡ n = omega arith in
      let s-is : windows_from 0 s ≡ s = omega arith in
      (p.mask_is ∙ rw (e, n-is, s-is), p.next_is ∙ rw (e, n-is, s-is))
