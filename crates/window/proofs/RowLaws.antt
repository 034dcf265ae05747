-- The state that a row of zones leads to, rule by rule: what a point does to it is what the reference chart says of the row.
use Rattle.std.specs.Prelude.{◌≡◌, refl, true, false, List, [], ◌∷◌, map, length, take}
use Rattle.std.proofs.Common.{sym, ◌∙◌, ⊎_elim, lt_of_le_of_lt, lt_of_lt_of_le, pow_mono, leb-false, eq-eqb}
use Rattle.std.proofs.Math.Path.{ap}
use Prim.Native.Nat.{ℕ, zero, suc, ◌+◌, ◌-◌, ◌*◌, ◌/◌, ◌%◌, ◌^◌, ◌≤◌, ◌<◌, min}
use Rattle.std.proofs.Math.Nat.{pow-succ', div-eq_of_lt}
use native.Mathlib.Omega.{arith}
use Rattle.std.proofs.Math.Dec.{leb}
use Rattle.std.proofs.lemmas.Bool.{lt-leb}
use Rattle.rules.specs.declared.Rule.{Rule}
use Rattle.rules.specs.InBounds.{InBounds, AllInBounds}
use Rattle.rules.specs.Mask.{mask_of}
use Rattle.rules.specs.MaskLaws.{bit_zero}
use Rattle.rules.specs.ZoneSet.{in_zone_set}
use Rattle.window.specs.Window.{max_age, window_base, live_hit, live, hits_up_to, next_window, window_holds, valid_window}
use Rattle.window.specs.WindowLaws.{le_or_lt, live_le, live_lt}
use Rattle.window.specs.ForgetLaws.{live_again, none_forgotten, hits_fewer, hits_no_older, hits_zero, live_zero, live_first, hits_first}
use Rattle.window.specs.State.{valid_state, holding, state_mask, next_state, move_by, move_of}
use Rattle.window.specs.ReferenceChart.{hits_among, rule_holds, row_mask}
use Rattle.window.specs.RowState.{row_hits, window_of_row, state_of_row}

-- ---- the hits of a row

no_hits : (n zones : ℕ) → hits_among zones (take n []) ≡ 0
unfolding hits_among
no_hits zero zones = refl
no_hits (suc n) zones = refl

among_hits : (n zones : ℕ) (row : List ℕ) → hits_among zones (take n row) ≡ hits_up_to n (row_hits zones row)
unfolding hits_among hits_up_to row_hits
among_hits zero zones row = refl
among_hits (suc n) zones [] = no_hits (suc n) zones ∙ sym (hits_zero (suc n))
among_hits (suc n) zones (z ∷ row) =
    ap (λ (t : ℕ). in_zone_set zones z + t) (among_hits n zones row) ∙ sym (hits_first n (in_zone_set zones z) (row_hits zones row) (omega arith))

row_lt : (zones : ℕ) (row : List ℕ) → row_hits zones row < 2 ^ length row
unfolding row_hits
row_lt zones [] = omega arith
row_lt zones (z ∷ row) = let e : 2 ^ length (z ∷ row) ≡ 2 * 2 ^ length row = pow-succ' 2 (length row) in omega (arith, row_lt zones row)

hits_more : (n w : ℕ) → hits_up_to n w ≤ hits_up_to (suc n) w
unfolding hits_up_to
hits_more zero w = omega arith
hits_more (suc n) w = omega (arith, hits_more n (w / 2))

-- ---- one rule

-- forgetting before a point or only after it comes to the same
forget_early : (k n h w : ℕ) → h < 2 → live k 0 n (h + 2 * live k 0 n w) ≡ live k 0 n (h + 2 * w)
unfolding live
forget_early k zero h w q = refl
forget_early k (suc n) h w q =
    live_first k 0 n h (live k 0 (suc n) w) q
    ∙ ap (λ (t : ℕ). live_hit k (0 + h) (suc n) h + 2 * t) (live_again k 0 (0 + h) (suc n) n w (omega arith) (omega arith))
    ∙ sym (live_first k 0 n h w q)

same_test : (k h g f : ℕ) → g ≤ f → (k ≤ h + f → g ≡ f) → leb k (h + g) ≡ leb k (h + f)
same_test k h g f q e =
    ⊎_elim
    (λ (p : k ≤ h + f). ap (λ (t : ℕ). leb k (h + t)) (e p))
    (λ (p : h + f < k). lt-leb k (h + g) (omega arith) ∙ sym (lt-leb k (h + f) p))
    (le_or_lt k (h + f))

pub young : (w n : ℕ) → w < 2 ^ n → w < window_base → w / 2 ^ min n max_age ≡ 0
young w n h q =
    ⊎_elim
    (λ (p : n ≤ max_age). let e : min n max_age ≡ n = omega arith in rw e (div-eq_of_lt h))
    (λ (p : max_age < n). let e : min n max_age ≡ max_age = omega arith in rw e (div-eq_of_lt {n = w} {m = window_base} q))
    (le_or_lt n max_age)

module _ (r : Rule) (bounds : InBounds r) (row : List ℕ) where
  room : (r.m - 1) ≤ max_age
  room = omega arith

  window_of_row_small : window_of_row r row < window_base
  window_of_row_small = lt_of_lt_of_le (live_lt r.k 0 (r.m - 1) (row_hits r.zones row)) (pow_mono {i = r.m - 1} {j = max_age} room)

  -- one more point leads from the row's window to the longer row's
  window_next : (z : ℕ) → next_window r (window_of_row r row) z ≡ window_of_row r (z ∷ row)
  unfolding row_hits
  window_next z = forget_early r.k (r.m - 1) (in_zone_set r.zones z) (row_hits r.zones row) (omega arith)

  all_ages : hits_up_to max_age (window_of_row r row) ≡ hits_up_to (r.m - 1) (window_of_row r row)
  all_ages = hits_no_older r.k 0 (r.m - 1) max_age (row_hits r.zones row) room

  -- the rule holds by its window as it does by the row
  window_holds_lem : (z : ℕ) → window_holds r (window_of_row r row) z ≡ rule_holds (z ∷ row) r
  unfolding hits_among
  window_holds_lem z =
      let n = r.m - 1 in
      let w = row_hits r.zones row in
      let e : r.m ≡ suc n = omega arith in
      ap (λ (t : ℕ). leb r.k (in_zone_set r.zones z + t)) all_ages
      ∙ same_test r.k (in_zone_set r.zones z) (hits_up_to n (window_of_row r row)) (hits_up_to n w) (hits_fewer r.k 0 n w) (λ q. none_forgotten r.k 0 n w (omega arith))
      ∙ ap (λ (t : ℕ). leb r.k (in_zone_set r.zones z + t)) (sym (among_hits n r.zones row))
      ∙ ap (λ (t : ℕ). leb r.k (hits_among r.zones (take t (z ∷ row)))) (sym e)

  -- where the rule does not hold on the row, its window can be given with the row's length
  window_valid : rule_holds row r ≡ false → valid_window (length row) r (window_of_row r row) ≡ true
  window_valid h =
      let n = r.m - 1 in
      let w = row_hits r.zones row in
      let e : r.m ≡ suc n = omega arith in
      let few : hits_among r.zones (take r.m row) < r.k = leb-false r.k (hits_among r.zones (take r.m row)) h in
      let all : hits_among r.zones (take r.m row) ≡ hits_up_to (suc n) w = among_hits r.m r.zones row ∙ ap (λ (t : ℕ). hits_up_to t w) e in
      rw (
        lt-leb r.k (hits_up_to max_age (window_of_row r row)) (omega (arith, all_ages, hits_fewer r.k 0 n w, hits_more n w)),
        eq-eqb (live r.k 0 n (window_of_row r row)) (window_of_row r row) (live_again r.k 0 0 n n w (omega arith) (omega arith)),
        eq-eqb (window_of_row r row / 2 ^ min (length row) max_age) 0
            (young (window_of_row r row) (length row) (lt_of_le_of_lt (live_le r.k 0 n w) (row_lt r.zones row)) window_of_row_small),
      )

-- ---- all rules

pub digit : (w x : ℕ) → w < window_base → (w + window_base * x) % window_base ≡ w
digit w x h = omega arith

pub digits : (w x : ℕ) → w < window_base → (w + window_base * x) / window_base ≡ x
digits w x h = omega arith

-- on a row where no rule holds, the state can be given with the row's length: so no call gets 5
pub valid_of_row : (rs : List Rule) → AllInBounds rs → (row : List ℕ) → row_mask rs row ≡ 0 → valid_state (length row) rs (state_of_row rs row) ≡ true
unfolding AllInBounds row_mask mask_of valid_state state_of_row
valid_of_row [] p row e = refl
valid_of_row (r ∷ rs) p row e =
    let q = window_of_row_small r p.0 row in
    let f = bit_zero (rule_holds row r) (mask_of (map (rule_holds row) rs)) e in
    rw (
      digit (window_of_row r row) (state_of_row rs row) q,
      digits (window_of_row r row) (state_of_row rs row) q,
      window_valid r p.0 row f.0,
      valid_of_row rs p.1 row f.1,
    )

-- the mask by the state is the mask by the row
pub mask_of_row : (rs : List Rule) → AllInBounds rs → (row : List ℕ) (z : ℕ) → state_mask rs (state_of_row rs row) z ≡ row_mask rs (z ∷ row)
unfolding AllInBounds row_mask mask_of holding state_of_row
mask_of_row [] p row z = refl
mask_of_row (r ∷ rs) p row z =
    let q = window_of_row_small r p.0 row in
    rw (
      digit (window_of_row r row) (state_of_row rs row) q,
      digits (window_of_row r row) (state_of_row rs row) q,
      window_holds_lem r p.0 row z,
      mask_of_row rs p.1 row z,
    )

pub next_of_row : (rs : List Rule) → AllInBounds rs → (row : List ℕ) (z : ℕ) → next_state rs (state_of_row rs row) z ≡ state_of_row rs (z ∷ row)
unfolding AllInBounds next_state state_of_row
next_of_row [] p row z = refl
next_of_row (r ∷ rs) p row z =
    let q = window_of_row_small r p.0 row in
    rw (
      digit (window_of_row r row) (state_of_row rs row) q,
      digits (window_of_row r row) (state_of_row rs row) q,
      window_next r p.0 row z,
      next_of_row rs p.1 row z,
    )

-- the move of a row's state is what the reference chart says of the row: a signal where some rule holds, else on to the longer row's state
pub move_of_row : (rs : List Rule) → AllInBounds rs → (row : List ℕ) (z : ℕ) → move_of rs (state_of_row rs row) z ≡ move_by (row_mask rs (z ∷ row)) (state_of_row rs (z ∷ row))
unfolding move_of
move_of_row rs p row z = rw (mask_of_row rs p row z, next_of_row rs p row z)

-- ---- the empty row

pub empty_row_state : (rs : List Rule) → state_of_row rs [] ≡ 0
unfolding state_of_row row_hits
empty_row_state [] = refl
empty_row_state (r ∷ rs) = omega (arith, live_zero r.k 0 (r.m - 1), empty_row_state rs)

pub empty_row_mask : (rs : List Rule) → AllInBounds rs → row_mask rs [] ≡ 0
unfolding row_mask mask_of AllInBounds
empty_row_mask [] p = refl
empty_row_mask (r ∷ rs) p = rw (no_hits r.m r.zones, lt-leb r.k 0 p.0.some_hits, empty_row_mask rs p.1)
