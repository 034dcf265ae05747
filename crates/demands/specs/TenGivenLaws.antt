-- The states of the rows of four different zones, one rule for each zone. Laws.
use Rattle.std.specs.Prelude.{ℕ, zero, suc, ◌+◌, ◌*◌, ◌/◌, ◌%◌, ◌^◌, ◌≤◌, ◌<◌, ◌≡◌, refl, Bool, true, false, cond, List, [], ◌∷◌, ltb, eqb, length, Ok}
use Rattle.std.proofs.Common.{sym, ap, ◌∙◌, arith, not-suc-le-zero, ltb-true, eqb-true}
use Rattle.rules.specs.declared.Rule.{Rule}
use Rattle.rules.specs.Bounds.{zone_count, max_states}
use Rattle.rules.specs.Check.{check_rules, active_rules, rules_from, check_of}
use Rattle.rules.specs.Mask.{mask_of}
use Rattle.runlength.specs.Sum.{at, sum}
use Rattle.window.specs.Window.{hits_up_to, live}
use Rattle.window.specs.ReferenceChart.{hits_among, row_mask}
use Rattle.window.specs.RowState.{row_hits, state_of_row}
use Rattle.claims.specs.Counted.{QuietRow, empty, point, TooManyStates}
use Rattle.demands.specs.TwiceInNine.{twice_in_nine}

abbrev rs : List Rule
rs = active_rules twice_in_nine

-- the row of four zones that a number has as its digits, and whether the zones differ
abbrev row : ℕ → List ℕ
row k = k % 8 ∷ k / 8 % 8 ∷ k / 64 % 8 ∷ k / 512 % 8 ∷ []

-- the number of a row, from its state: the window of a zone at digit p of the number is 2 ^ p
unfoldable coded : ℕ → ℕ
coded s = sum 8 (λ z. z * (s / 256 ^ z % 256) ^ 3)

-- no rule holds at any of the row's points
unfoldable quietly : List ℕ → Bool
quietly [] = true
quietly (z ∷ zs) = cond (ltb z zone_count) (cond (eqb (row_mask rs (z ∷ zs)) 0) (quietly zs) false) false

-- the row is quiet, and its state has the number
unfoldable fits : ℕ → Bool
fits k = cond (quietly (row k)) (eqb (coded (state_of_row rs (row k))) k) false

-- those of the n numbers from k on, and the states of their rows
unfoldable fitting : ℕ → ℕ → List ℕ
fitting zero k = []
fitting (suc n) k = cond (fits k) (k ∷ fitting n (suc k)) (fitting n (suc k))

unfoldable states_of : List ℕ → List ℕ
states_of [] = []
states_of (k ∷ ks) = state_of_row rs (row k) ∷ states_of ks

-- there are 1,025 of them
enough : length (fitting 2503 0) ≡ 1025
unfolding fitting fits coded sum quietly row_mask mask_of hits_among rules_from state_of_row row_hits live hits_up_to
enough = refl

-- each fits, and they rise
each_fits : (n k i : ℕ) → i < length (fitting n k) → (fits (at (fitting n k) i) ≡ true) × (k ≤ at (fitting n k) i)
unfolding fitting
each_fits zero k i h = absurd (not-suc-le-zero h)
each_fits (suc n) k i h = go (fits k) refl i h (each_fits n (suc k))
  where
    go : (b : Bool) → fits k ≡ b → (i : ℕ) → i < length (cond b (k ∷ fitting n (suc k)) (fitting n (suc k)))
        → ((i : ℕ) → i < length (fitting n (suc k)) → (fits (at (fitting n (suc k)) i) ≡ true)
        × (suc k ≤ at (fitting n (suc k)) i))
        → (fits (at (cond b (k ∷ fitting n (suc k)) (fitting n (suc k))) i) ≡ true)
        × (k ≤ at (cond b (k ∷ fitting n (suc k)) (fitting n (suc k))) i)
    go true e zero h r = (e, omega arith)
    go true e (suc i) h r = let o = r i (omega arith) in (o.0, omega (arith, o.1))
    go false e i h r = let o = r i h in (o.0, omega (arith, o.1))

rising : (n k i j : ℕ) → i < j → j < length (fitting n k) → at (fitting n k) i < at (fitting n k) j
unfolding fitting
rising zero k i j l h = absurd (not-suc-le-zero h)
rising (suc n) k i j l h = go (fits k) refl i j l h (rising n (suc k))
  where
    go : (b : Bool) → fits k ≡ b → (i j : ℕ) → i < j → j < length (cond b (k ∷ fitting n (suc k)) (fitting n (suc k)))
        → ((i j : ℕ) → i < j → j < length (fitting n (suc k)) → at (fitting n (suc k)) i < at (fitting n (suc k)) j)
        → at (cond b (k ∷ fitting n (suc k)) (fitting n (suc k))) i < at
        (cond b (k ∷ fitting n (suc k)) (fitting n (suc k))) j
    go true e i zero l h r = absurd (not-suc-le-zero l)
    go true e zero (suc j) l h r = (each_fits n (suc k) j (omega arith)).1
    go true e (suc i) (suc j) l h r = r i j (omega arith) (omega arith)
    go false e i j l h r = r i j l h

states_length : (ks : List ℕ) → length (states_of ks) ≡ length ks
unfolding states_of
states_length [] = refl
states_length (k ∷ ks) = ap suc (states_length ks)

states_at : (ks : List ℕ) (i : ℕ) → i < length ks → at (states_of ks) i ≡ state_of_row rs (row (at ks i))
unfolding states_of
states_at [] i h = absurd (not-suc-le-zero h)
states_at (k ∷ ks) zero h = refl
states_at (k ∷ ks) (suc i) h = states_at ks i (omega arith)

-- a row that passes is quiet
row_quiet : (zs : List ℕ) → quietly zs ≡ true → QuietRow rs zs
unfolding quietly
row_quiet [] e = empty
row_quiet (z ∷ zs) e = go (ltb z zone_count) (eqb (row_mask rs (z ∷ zs)) 0) refl refl e (row_quiet zs)
  where
    go : (a b : Bool) → ltb z zone_count ≡ a → eqb (row_mask rs (z ∷ zs)) 0 ≡ b
        → cond a (cond b (quietly zs) false) false ≡ true
        → (quietly zs ≡ true → QuietRow rs zs) → QuietRow rs (z ∷ zs)
    go true true p q e r = point z (r e) (ltb-true z zone_count p) (eqb-true (row_mask rs (z ∷ zs)) 0 q)
    go true false p q e r = absurd (let x : ◌≡◌ {A = ℕ} 0 1 = cc in omega arith)
    go false b p q e r = absurd (let x : ◌≡◌ {A = ℕ} 0 1 = cc in omega arith)

fits_both : (k : ℕ) → fits k ≡ true → QuietRow rs (row k) × (coded (state_of_row rs (row k)) ≡ k)
unfolding fits
fits_both k e = go (quietly (row k)) refl e
  where
    go : (a : Bool) → quietly (row k) ≡ a → cond a (eqb (coded (state_of_row rs (row k))) k) false ≡ true
        → QuietRow rs (row k) × (coded (state_of_row rs (row k)) ≡ k)
    go true p q = (row_quiet (row k) p, eqb-true (coded (state_of_row rs (row k))) k q)
    go false p q = absurd (let x : ◌≡◌ {A = ℕ} 0 1 = cc in omega arith)

-- for any such numbers, so that none is computed here
module _ (n : ℕ) (many : length (fitting n 0) ≡ max_states + 1) where
  abbrev ks : List ℕ
  ks = fitting n 0

  enough_states : TooManyStates rs
  enough_states = record {
    list = states_of ks;
    count = states_length ks ∙ many;
    distinct = record {
      apart = λ i j l h e.
          let lj : j < length ks = omega (arith, states_length ks) in
          let li : i < length ks = omega arith in
          let ci = (fits_both (at ks i) (each_fits n 0 i li).0).1 in
          let cj = (fits_both (at ks j) (each_fits n 0 j lj).0).1 in
          let q : at ks i ≡ at ks j = sym ci ∙ ap coded (sym (states_at ks i li) ∙ e ∙ states_at ks j lj) ∙ cj in
          omega (arith, rising n 0 i j l lj);
    };
    each = λ i h.
        let l : i < length ks = omega (arith, states_length ks) in
        record {
          row = row (at ks i);
          quiet_row = (fits_both (at ks i)
              (each_fits n 0 i l).0).0;
          state = states_at ks i l;
        };
  }

pub ten_given : TooManyStates (active_rules twice_in_nine)
ten_given = enough_states 2503 enough

pub in_bounds : check_of twice_in_nine ≡ Ok tt
unfolding check_of check_rules rules_from
in_bounds = refl
