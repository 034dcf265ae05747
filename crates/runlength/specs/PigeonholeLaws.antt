-- Different elements of a list are at most as many as it has. Laws.
use Prim.Native.Nat.{ℕ, zero, suc, ◌≤◌, ◌<◌}
use Rattle.std.specs.Prelude.{◌≡◌, ◌⊎◌, length, get_or}
use Rattle.std.proofs.Math.Path.{refl, sym, ap}
use Rattle.std.proofs.Common.{◌∙◌, inl, inr, arith, le_refl, not-suc-le-zero}
use mathlib.Core.List.Memᴰ
use mathlib.Core.List.{List, [], ◌∷◌, ◌++◌, Memᴰ}
use Rattle.std.proofs.Math.Decide.{dec_lt}
use Rattle.runlength.specs.Sum.{tab}
use Rattle.runlength.specs.TabLaws.{length_tab}

later : {i n : ℕ} → i < n → i < suc n
later h = omega arith

-- ---- a list without one of its elements

module _ {A : Type 0} where
  less : {x : A} {ys : List A} → Memᴰ x ys → List A
  less (Memᴰ.head {xs = xs} e) = xs
  less (Memᴰ.tail {x = y} m) = y ∷ less m

  less_length : {x : A} {ys : List A} (m : Memᴰ x ys) → suc (length (less m)) ≡ length ys
  unfolding less
  less_length (Memᴰ.head e) = refl
  less_length (Memᴰ.tail m) = ap suc (less_length m)

  less_keeps : {x y : A} {ys : List A} (m : Memᴰ x ys) → Memᴰ y ys → (y ≡ x → ⊥) → Memᴰ y (less m)
  unfolding less
  less_keeps {y = y} (Memᴰ.head {x = x'} {xs = xs} e) k d = go (Memᴰ.cases_cons k)
    where
      go : (y ≡ x') ⊎ Memᴰ y xs → Memᴰ y xs
      go (inl p) = absurd (d (p ∙ sym e))
      go (inr i) = i
  less_keeps {y = y} (Memᴰ.tail {x = x'} {xs = xs} m) k d = go (Memᴰ.cases_cons k) (λ i. less_keeps m i d)
    where
      go : (y ≡ x') ⊎ Memᴰ y xs → (Memᴰ y xs → Memᴰ y (less m)) → Memᴰ y (x' ∷ less m)
      go (inl p) r = Memᴰ.head p
      go (inr i) r = Memᴰ.tail (r i)

  -- ---- n elements of a list, no two of them the same

  pub pigeonhole : (n : ℕ) (ys : List A) (f : (i : ℕ) → i < n → A) → ((i : ℕ) (h : i < n) → Memᴰ (f i h) ys)
      → ((i j : ℕ) (h : i < n) (l : j < n) → i < j → f i h ≡ f j l → ⊥) → n ≤ length ys
  pigeonhole zero ys f m d = omega arith
  pigeonhole (suc n) ys f m d =
      let last = m n (le_refl (suc n)) in
      let ih = pigeonhole n (less last) (λ i h. f i (later h))
      (λ i h. less_keeps last (m i (later h)) (λ e. d i n (later h) (le_refl (suc n)) h e))
      (λ i j h l k e. d i j (later h) (later l) k e) in
      omega (arith, less_length last)

-- what stands at an index is in the list
pub at_mem : (ys : List ℕ) (i s : ℕ) → i < length ys → get_or ys i 0 ≡ s → Memᴰ s ys
at_mem [] i s h e = absurd (not-suc-le-zero h)
at_mem (y ∷ ys) zero s h e = Memᴰ.head (sym e)
at_mem (y ∷ ys) (suc i) s h e = Memᴰ.tail (at_mem ys i s (omega arith) e)

-- ---- numbers below m

-- the list of the numbers below n holds what is below n
pub in_numbers : (n i : ℕ) → i < n → Memᴰ i (tab n (λ i. i))
unfolding tab
in_numbers zero i h = absurd (omega arith)
in_numbers (suc n) i h = go (dec_lt i n) (in_numbers n i)
  where
    go : Dec (i < n) → (i < n → Memᴰ i (tab n (λ i. i))) → Memᴰ i (tab n (λ i. i) ++ n ∷ [])
    go (yes l) r = Memᴰ.append_left (n ∷ []) (r l)
    go (no l) r = Memᴰ.append_right (tab n (λ i. i)) (Memᴰ.head (omega arith))

-- so different numbers below m are at most m
pub different_below : (n m : ℕ) (f : ℕ → ℕ) → ((i : ℕ) → i < n → f i < m) → ((i j : ℕ) → i < j → j < n → f i ≡ f j → ⊥) → n ≤ m
different_below n m f below apart =
    let most = pigeonhole n (tab m (λ i. i)) (λ i h. f i) (λ i h. in_numbers m (f i) (below i h)) (λ i j h l k e. apart i j k l e) in
    omega (arith, length_tab m (λ i. i))
