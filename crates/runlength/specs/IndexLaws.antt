-- Laws of the index of a state in a list, of lists that grow at the end, and of the flat index k of a move.
use Rattle.std.specs.Prelude.{ℕ, zero, suc, ◌+◌, ◌*◌, ◌/◌, ◌%◌, ◌<◌, ◌≤◌, ◌≡◌, refl, Bool, true, false, cond, List, [], ◌∷◌, ◌++◌, eqb, get_or, take}
use Rattle.std.proofs.Math.Path.{ap, sym}
use Rattle.std.proofs.Common.{◌∙◌, arith, le_refl, not-suc-le-zero, mod-lt, mod-eq_of_lt, div-lt_iff_lt-mul, mul-le-mul_left, add-one, below_more, eq-eqb, ne_eqb, eqb-true, length-append, drop-cons, get_or-take}
use Rattle.std.proofs.Math.Nat.{div-eq_of_lt, mul-add-div, mul-add-mod_self_left}
use Rattle.std.proofs.Math.Decide.{dec_lt}
use Rattle.std.proofs.lemmas.Bool.{eqb-false}
use Rattle.std.proofs.Math.ListN.{length, drop, get_or-append}
use Rattle.std.proofs.Math.Seq.{length-take-le, drop-length, get_or-append_seam}
use Rattle.runlength.specs.Index.{index_of, Distinct, At}

-- ---- the flat index of a move

module _ (zones : ℕ) where
  pub zones_pos : (n k : ℕ) → k < zones * n → 0 < zones
  zones_pos n k h = go zones h
    where
      go : (x : ℕ) → k < x * n → 0 < x
      go zero h = omega arith
      go (suc x) h = omega arith

  -- the state that the index k belongs to is one of n
  pub index_state : (n k : ℕ) → k < zones * n → k / zones < n
  index_state n k h = (div-lt_iff_lt-mul {k = zones} {x = k} {y = n} (zones_pos n k h)).1 (omega arith)

  pub index_zone : (n k : ℕ) → k < zones * n → k % zones < zones
  index_zone n k h = mod-lt k (zones_pos n k h)

  -- state i by zone z stands at zones * i + z
  pub flat_state : (i z : ℕ) → z < zones → (zones * i + z) / zones ≡ i
  flat_state i z h = mul-add-div {m = zones} (omega arith) i z ∙ omega (arith, div-eq_of_lt h)

  pub flat_zone : (i z : ℕ) → z < zones → (zones * i + z) % zones ≡ z
  flat_zone i z h = mul-add-mod_self_left zones i z ∙ mod-eq_of_lt h

  pub flat_below : (i z n : ℕ) → z < zones → i < n → zones * i + z < zones * n
  flat_below i z n h l = omega (arith, mul-le-mul_left {m = suc i} {n = n} zones l)

-- ---- the index of a state

pub index_le : (t : ℕ) (xs : List ℕ) → index_of t xs ≤ length xs
unfolding index_of
index_le t [] = omega arith
index_le t (x ∷ xs) = go (eqb x t) (index_le t xs)
  where
    go : (b : Bool) → index_of t xs ≤ length xs → cond b 0 (suc (index_of t xs)) ≤ suc (length xs)
    go true h = omega arith
    go false h = omega arith

-- what is found is there
pub index_at : (t : ℕ) (xs : List ℕ) → index_of t xs < length xs → get_or xs (index_of t xs) 0 ≡ t
unfolding index_of
index_at t [] h = absurd (not-suc-le-zero h)
index_at t (x ∷ xs) h = go (eqb x t) refl (index_at t xs) h
  where
    go : (b : Bool) → eqb x t ≡ b → (index_of t xs < length xs → get_or xs (index_of t xs) 0 ≡ t)
        → cond b 0 (suc (index_of t xs)) < suc (length xs) → get_or (x ∷ xs) (cond b 0 (suc (index_of t xs))) 0 ≡ t
    go true e ih h = eqb-true x t e
    go false e ih h = ih (omega arith)

-- what is not found is nowhere
pub index_none : (t : ℕ) (xs : List ℕ) → length xs ≤ index_of t xs → (i : ℕ) → i < length xs → get_or xs i 0 ≡ t → ⊥
unfolding index_of
index_none t [] h i l q = not-suc-le-zero l
index_none t (x ∷ xs) h i l q = go (eqb x t) refl (index_none t xs) i h l q
  where
    go : (b : Bool) → eqb x t ≡ b → (length xs ≤ index_of t xs → (i : ℕ) → i < length xs → get_or xs i 0 ≡ t → ⊥) → (i : ℕ)
        → suc (length xs) ≤ cond b 0 (suc (index_of t xs)) → i < suc (length xs) → get_or (x ∷ xs) i 0 ≡ t → ⊥
    go true e ih i h l q = omega arith
    go false e ih zero h l q = eqb-false x t e q
    go false e ih (suc i) h l q = ih (omega arith) i (omega arith) q

-- ---- different indices

-- f takes different indices below n to different numbers
module _ (f : ℕ → ℕ) (n : ℕ) (apart : (i j : ℕ) → i < j → j < n → f i ≡ f j → ⊥) where
  -- so it takes only the same index to the same number
  pub same_index : (i j : ℕ) → i < n → j < n → f i ≡ f j → i ≡ j
  same_index i j h l e = go (dec_lt i j) (dec_lt j i)
    where
      go : Dec (i < j) → Dec (j < i) → i ≡ j
      go (yes x) y = absurd (apart i j x l e)
      go (no x) (yes y) = absurd (apart j i y h (sym e))
      go (no x) (no y) = omega arith

  -- and a test of two numbers is one of their indices
  pub same_test : (i j : ℕ) → i < n → j < n → eqb (f i) (f j) ≡ eqb i j
  same_test i j h l = go (eqb i j) refl
    where
      go : (b : Bool) → eqb i j ≡ b → eqb (f i) (f j) ≡ b
      go true e = eq-eqb (f i) (f j) (ap f (eqb-true i j e))
      go false e = ne_eqb (f i) (f j) (λ q. eqb-false i j e (same_index i j h l q))

-- ---- one more at the end

-- one list begins with the other
pub record Grows (f f' : List ℕ) : Type 0 where
  pub longer : length f ≤ length f'
  pub same : (i : ℕ) → i < length f → get_or f' i 0 ≡ get_or f i 0

pub grows_none : (f : List ℕ) → Grows f f
grows_none f = record { longer = le_refl _; same = λ i l. refl }

pub snoc_length : (f : List ℕ) (t : ℕ) → length (f ++ t ∷ []) ≡ length f + 1
snoc_length f t = length-append f (t ∷ [])

pub grows_one : (f : List ℕ) (t : ℕ) → Grows f (f ++ t ∷ [])
grows_one f t = record { longer = omega (arith, snoc_length f t); same = λ i l. get_or-append f (t ∷ []) 0 i l }

pub at_grows : {f f' : List ℕ} → Grows f f' → (i s : ℕ) → At f i s → At f' i s
at_grows g i s p = record { below = omega (arith, g.longer, p.below); is = g.same i p.below ∙ p.is }

-- what holds of each element holds of each with one more
pub snoc_each : (P : ℕ → Type 0) (f : List ℕ) (t : ℕ) → ((i : ℕ) → i < length f → P (get_or f i 0)) → P t
    → (i : ℕ) → i < length (f ++ t ∷ []) → P (get_or (f ++ t ∷ []) i 0)
snoc_each P f t old here i l =
    below_more (λ (k : ℕ). P (get_or (f ++ t ∷ []) k 0)) (length f) (λ k h. rw (get_or-append f (t ∷ []) 0 k h) (old k h))
    (rw (get_or-append_seam f t [] 0) here) i (omega (arith, snoc_length f t))

-- a state that is nowhere in the list makes no repeat
pub snoc_distinct : (f : List ℕ) (t : ℕ) → Distinct f → ((i : ℕ) → i < length f → get_or f i 0 ≡ t → ⊥) → Distinct (f ++ t ∷ [])
snoc_distinct f t d fresh = record {
  apart = λ i j l h.
      below_more (λ (k : ℕ). i < k → get_or (f ++ t ∷ []) i 0 ≡ get_or (f ++ t ∷ []) k 0 → ⊥) (length f)
      (λ k h l q. d.apart i k l h (sym (get_or-append f (t ∷ []) 0 i (omega arith)) ∙ q ∙ get_or-append f (t ∷ []) 0 k h))
      (λ l q. fresh i l (sym (get_or-append f (t ∷ []) 0 i l) ∙ q ∙ get_or-append_seam f t [] 0)) j (omega (arith, snoc_length f t)) l;
}

-- ---- the search for an index, from the index i on

index_hit : (t : ℕ) (xs : List ℕ) (i : ℕ) → i < length xs → get_or xs i 0 ≡ t → index_of t (drop i xs) ≡ 0
unfolding index_of
index_hit t xs i h e = rw (drop-cons xs i 0 h, eq-eqb _ _ e)

index_miss : (t : ℕ) (xs : List ℕ) (i : ℕ) → i < length xs → (get_or xs i 0 ≡ t → ⊥)
    → index_of t (drop i xs) ≡ suc (index_of t (drop (suc i) xs))
unfolding index_of
index_miss t xs i h e = rw (drop-cons xs i 0 h, ne_eqb _ _ e)

-- what the search among the first n knows at i: the first i are no t
pub record Searched (t n : ℕ) (a : List ℕ) (i : ℕ) : Type 0 where
  pub rest : index_of t (take n a) ≡ i + index_of t (drop i (take n a))

module _ {t n : ℕ} {a : List ℕ} {i : ℕ} (fits : n ≤ length a) (p : Searched t n a i) where
  pub search_found : i < n → get_or a i 0 ≡ t → i ≡ index_of t (take n a)
  search_found l e =
      let m : length (take n a) ≡ n = length-take-le n a fits in
      omega (arith, p.rest, index_hit t (take n a) i (omega arith) (get_or-take n a i 0 l ∙ e))

  pub search_on : i < n → (get_or a i 0 ≡ t → ⊥) → Searched t n a (i + 1)
  search_on l e =
      let m : length (take n a) ≡ n = length-take-le n a fits in
      let d = index_miss t (take n a) i (omega arith) (λ q. e (sym (get_or-take n a i 0 l) ∙ q)) in
      record { rest = rw (add-one i) (omega (arith, p.rest, d)) }

  pub search_end : i ≡ n → i ≡ index_of t (take n a)
  unfolding index_of
  search_end q =
      let m : length (take n a) ≡ i = length-take-le n a fits ∙ sym q in
      omega (arith, p.rest, ap (index_of t) (ap (λ (k : ℕ). drop k (take n a)) (sym m) ∙ drop-length (take n a)))
