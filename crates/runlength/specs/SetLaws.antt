-- Further laws of sums and of lists that were all 0 or rise. Laws.
use Rattle.std.specs.Prelude.{◌≡◌, refl, Bool, true, false, List, ℕ, zero, suc, ◌+◌, ◌≤◌, ◌<◌, length, get_or, set, replicate}
use Rattle.std.proofs.Common.{sym, subst, arith, get_or-set_same, get_or-set_other}
use Rattle.std.proofs.Math.Decide.{ℕ_discrete, dec_lt}
use Rattle.runlength.specs.Sum.{only}

pub only_le : (b : Bool) (x : ℕ) → only b x ≤ x
only_le true x = omega arith
only_le false x = omega arith

pub get_d_zeros : (n t : ℕ) → get_or {A = ℕ} (replicate n 0) t 0 ≡ 0
get_d_zeros zero t = refl
get_d_zeros (suc n) zero = refl
get_d_zeros (suc n) (suc t) = get_d_zeros n t

-- a value within bounds in a list within bounds
pub set_below : (l : List ℕ) (i v n : ℕ) → i < length l → v < n → ((k : ℕ) → get_or l k 0 < n) → (k : ℕ) → get_or (set l i v) k 0 < n
set_below l i v n h q p k = elim (ℕ_discrete i k) [
  | yes x ↦ subst (λ (y : ℕ). get_or (set l i v) y 0 < n) x (rw (get_or-set_same l i v 0 h) q)
  | no o ↦ rw (get_or-set_other l i k v 0 (λ x. o (sym x))) (p k)
]

-- a list that rises to place c still does, with a value at the next place
pub ordered_set : (l : List ℕ) (c v : ℕ) → c + 1 < length l → get_or l c 0 ≤ v → ((i j : ℕ) → i ≤ j → j ≤ c → get_or l i 0 ≤ get_or l j 0)
    → (i j : ℕ) → i ≤ j → j ≤ c + 1 → get_or (set l (c + 1) v) i 0 ≤ get_or (set l (c + 1) v) j 0
ordered_set l c v h q p i j x y = elim (dec_lt j (c + 1)) [
  | yes o ↦ omega (arith, other i (omega arith), other j (omega arith), p i j x (omega arith))
  | no o ↦ let e : j ≡ c + 1 = omega arith in rw (e, here) (elim (dec_lt i (c + 1)) [
    | yes a ↦ omega (arith, other i (omega arith), p i c (omega arith) (omega arith))
    | no a ↦ let f : i ≡ c + 1 = omega arith in rw (f, here) (omega arith)
  ])
]
  where
    here : get_or (set l (c + 1) v) (c + 1) 0 ≡ v
    here = get_or-set_same l (c + 1) v 0 h

    other : (k : ℕ) → k ≤ c → get_or (set l (c + 1) v) k 0 ≡ get_or l k 0
    other k o = get_or-set_other l (c + 1) k v 0 (omega arith)
