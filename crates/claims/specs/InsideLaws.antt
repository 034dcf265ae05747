-- A chain inside a larger one that has one zone more, of weight 0: the larger one's other states never have a unit, and
-- the rounded figures of the two are the same. Laws.
use Prim.Native.Nat.{ℕ, zero, suc, ◌+◌, ◌*◌, ◌/◌, ◌<◌}
use Rattle.std.specs.Prelude.{◌≡◌, Bool, true, false, List}
use Rattle.std.proofs.Math.Path.{refl, ap}
use Rattle.std.proofs.Common.{sym, ◌∙◌, arith, zero-mul, mul-zero, eq-eqb, ne_eqb}
use Rattle.std.proofs.Math.Bool.{cond}
use Rattle.std.proofs.Math.Nat.{zero-add, zero-div}
use Rattle.std.proofs.Math.Decide.{dec_lt}
use Rattle.std.proofs.Math.Dec.{eqb}
use Rattle.std.proofs.lemmas.Bool.{eqb-false}
use Rattle.runlength.specs.Scale.{weight_total, units_per_one}
use Rattle.runlength.specs.Sum.{sum, only}
use Rattle.runlength.specs.SumLaws.{sum_cong, sum_none, sum_point}
use Rattle.runlength.specs.Automaton.{Move, quiet, signal, after}
use Rattle.runlength.specs.Chain.{Chain, inflow, signalled, units, pmf, survival}
use Rattle.runlength.specs.Listed.{listed_automaton, listed_chain}
use Rattle.runlength.proofs.FutureLaws.{to_signal}
use Rattle.runlength.specs.Future.{Alike}
use Rattle.runlength.specs.IndexLaws.{same_test}

pub only_none : (b : Bool) → only b 0 ≡ 0
only_none true = refl
only_none false = refl

-- ---- a sum over the indices that φ gives, where nothing stands elsewhere

-- f but for the index p
abbrev without : ℕ → (ℕ → ℕ) → ℕ → ℕ
without p f s = cond (eqb s p) 0 (f s)

module _ (φ : ℕ → ℕ) (m : ℕ) where
  -- one index fewer
  nothing_left : (n : ℕ) (f : ℕ → ℕ) → ((s : ℕ) → s < m → ((i : ℕ) → i < suc n → φ i ≡ s → ⊥) → f s ≡ 0)
      → (s : ℕ) → s < m → ((i : ℕ) → i < n → φ i ≡ s → ⊥) → without (φ n) f s ≡ 0
  nothing_left n f elsewhere s h d = go (eqb s (φ n)) refl
    where
      not_among : eqb s (φ n) ≡ false → (i : ℕ) → i < suc n → φ i ≡ s → ⊥
      not_among e i l q = by (dec_lt i n)
        where
          by : Dec (i < n) → ⊥
          by (yes k) = d i k q
          by (no k) = let z : i ≡ n = omega arith in eqb-false s (φ n) e (sym q ∙ ap φ z)

      go : (b : Bool) → eqb s (φ n) ≡ b → cond b 0 (f s) ≡ 0
      go true e = refl
      go false e = elsewhere s h (not_among e)

  sum_image : (n : ℕ) (f : ℕ → ℕ) → ((i : ℕ) → i < n → φ i < m) → ((i j : ℕ) → i < j → j < n → φ i ≡ φ j → ⊥)
      → ((s : ℕ) → s < m → ((i : ℕ) → i < n → φ i ≡ s → ⊥) → f s ≡ 0) → sum m f ≡ sum n (λ i. f (φ i))
  unfolding sum
  sum_image zero f inside apart elsewhere = sum_none m f (λ s h. elsewhere s h (λ i l e. omega arith))
  sum_image (suc n) f inside apart elsewhere =
      let rest = sum_image n (without (φ n) f) (λ i l. inside i (omega arith))
      (λ i j l k e. apart i j l (omega arith) e) (nothing_left n f elsewhere) in
      let same = sum_cong n (λ i. without (φ n) f (φ i)) (λ i. f (φ i))
      (λ i l. ap (λ b. cond b 0 (f (φ i))) (ne_eqb (φ i) (φ n) (λ e. apart i n l (omega arith) e))) in
      let last = sum_point m (φ n) (f (φ n)) (without (φ n) f) f (inside n (omega arith))
      (sym (ap (λ b. cond b 0 (f (φ n)) + f (φ n)) (eq-eqb (φ n) (φ n) refl) ∙ zero-add (f (φ n))))
      (λ s l d. ap (λ b. cond b 0 (f s)) (sym (ne_eqb s (φ n) d))) in
      omega (arith, rest, same, last)

-- ---- the two chains: φ gives the index in the larger one, of n states and the zones to k, of each of the m states of
-- the smaller one

-- the indices of a pair of moves: both signal, or both go on, the larger one to the index of the smaller one's state
abbrev pub Indexed : (ℕ → ℕ) → ℕ → Move ℕ → Move ℕ → Type 0
Indexed φ m = Alike (λ x y. (y < m) × (x ≡ φ y))

pub record Inside (k n m : ℕ) (large small : List ℕ) (φ : ℕ → ℕ) : Type 0 where
  pub some : 0 < m
  pub inside : (i : ℕ) → i < m → φ i < n
  pub apart : (i j : ℕ) → i < j → j < m → φ i ≡ φ j → ⊥
  pub first : φ 0 ≡ 0
  pub moves : (i z : ℕ) → i < m → z < k
      → Indexed φ m ((listed_automaton (suc k) n large).move (φ i) z) ((listed_automaton k m small).move i z)

module _ {k n m : ℕ} {large small : List ℕ} {φ : ℕ → ℕ} (p : Inside k n m large small φ)
    (w : ℕ → ℕ) (weightless : w k ≡ 0) where
  abbrev C : Chain
  C = listed_chain (suc k) n large w

  abbrev D : Chain
  D = listed_chain k m small w

  -- units u of the larger chain and v of the smaller: the same at the indices, and none elsewhere
  record Held (u v : ℕ → ℕ) : Type 0 where
    same : (i : ℕ) → i < m → u (φ i) ≡ v i
    none : (s : ℕ) → s < n → ((i : ℕ) → i < m → φ i ≡ s → ⊥) → u s ≡ 0

  module _ {u v : ℕ → ℕ} (q : Held u v) where
    -- what the moves of all states bring, F saying what a move with x units × weight brings to where one looks
    gather : (F : Move ℕ → ℕ → ℕ) → ((a : Move ℕ) → F a 0 ≡ 0)
        → sum n (λ s. sum (suc k) (λ z. F (C.automaton.move s z) (u s * w z)))
        ≡ sum m (λ i. sum k (λ z. F (C.automaton.move (φ i) z) (v i * w z)))
    unfolding sum
    gather F F-none =
        sum_image φ n m (λ s. sum (suc k) (λ z. F (C.automaton.move s z) (u s * w z))) p.inside p.apart
        (λ s h d. sum_none (suc k) _ (λ z l. ap (λ x. F (C.automaton.move s z) (x * w z)) (q.none s h d)
        ∙ ap (F (C.automaton.move s z)) (zero-mul (w z)) ∙ F-none (C.automaton.move s z)))
        ∙ sum_cong m _ _ (λ i h.
        let a = C.automaton.move (φ i) k in
        let last : F a (u (φ i) * w k) ≡ 0 =
        ap (λ x. F a (u (φ i) * x)) weightless ∙ ap (F a) (mul-zero (u (φ i))) ∙ F-none a in
        let others = sum_cong k _ _ (λ z l. ap (λ x. F (C.automaton.move (φ i) z) (x * w z)) (q.same i h)) in
        omega (arith, last, others))

    to_index : (t : ℕ) → t < m → (x : ℕ) (a b : Move ℕ) → Indexed φ m a b
        → after a 0 (λ r. only (eqb r (φ t)) x) ≡ after b 0 (λ r. only (eqb r t) x)
    unfolding Alike
    to_index t l x (quiet i) (quiet j) o = ap (λ b. only b x) (ap (λ y. eqb y (φ t)) o.1 ∙ same_test φ m p.apart j t o.0 l)
    to_index t l x (quiet i) signal o = absurd o
    to_index t l x signal (quiet j) o = absurd o
    to_index t l x signal signal o = refl

    elsewhere : (s : ℕ) → ((i : ℕ) → i < m → φ i ≡ s → ⊥) → (x : ℕ) (a b : Move ℕ) → Indexed φ m a b
        → after a 0 (λ r. only (eqb r s) x) ≡ 0
    unfolding Alike
    elsewhere s d x (quiet i) (quiet j) o = ap (λ b. only b x) (ne_eqb i s (λ e. d j o.0 (sym o.1 ∙ e)))
    elsewhere s d x (quiet i) signal o = absurd o
    elsewhere s d x signal (quiet j) o = absurd o
    elsewhere s d x signal signal o = refl

    none_brought : (s : ℕ) (a : Move ℕ) → after a 0 (λ r. only (eqb r s) 0) ≡ 0
    none_brought s (quiet i) = only_none (eqb i s)
    none_brought s signal = refl

    none_signalled : (a : Move ℕ) → ◌≡◌ {A = ℕ} (after a 0 (λ r. 0)) 0
    none_signalled (quiet i) = refl
    none_signalled signal = refl

    same_inflow : (t : ℕ) → t < m → inflow C u (φ t) ≡ inflow D v t
    unfolding inflow
    same_inflow t l =
        gather (λ a x. after a 0 (λ r. only (eqb r (φ t)) x)) (none_brought (φ t))
        ∙ sum_cong m _ _ (λ i h. sum_cong k _ _ (λ z g. to_index t l (v i * w z) _ _ (p.moves i z h g)))

    no_inflow : (s : ℕ) → ((i : ℕ) → i < m → φ i ≡ s → ⊥) → inflow C u s ≡ 0
    unfolding inflow
    no_inflow s d =
        gather (λ a x. after a 0 (λ r. only (eqb r s) x)) (none_brought s)
        ∙ sum_none m _ (λ i h. sum_none k _ (λ z g. elsewhere s d (v i * w z) _ _ (p.moves i z h g)))

    same_signalled : signalled C u ≡ signalled D v
    unfolding signalled
    same_signalled =
        gather (λ a x. after a x (λ r. 0)) none_signalled
        ∙ sum_cong m _ _ (λ i h. sum_cong k _ _ (λ z g. to_signal (λ x y. (y < m) × (x ≡ φ y)) (v i * w z) _ _ (p.moves i z h g)))

  held : (c : ℕ) → Held (units C c) (units D c)
  unfolding units
  held zero = record {
    same = λ i h. ap (λ b. only b units_per_one) (ap (λ y. eqb y (φ i)) (sym p.first) ∙ same_test φ m p.apart 0 i p.some h);
    none = λ s h d. ap (λ b. only b units_per_one) (ne_eqb 0 s (λ e. d 0 p.some (p.first ∙ e)));
  }
  held (suc c) = record {
    same = λ t l. ap (λ x. x / weight_total) (same_inflow (held c) t l);
    none = λ s h d. ap (λ x. x / weight_total) (no_inflow (held c) s d) ∙ zero-div weight_total;
  }

  -- The rounded chances, and what is left, are the same.
  pub inside_pmf : (c : ℕ) → pmf C c ≡ pmf D c
  unfolding pmf
  inside_pmf zero = refl
  inside_pmf (suc c) = ap (λ x. x / weight_total) (same_signalled (held c))

  pub inside_survival : (c : ℕ) → survival C c ≡ survival D c
  unfolding survival
  inside_survival c =
      sum_image φ n m (units C c) p.inside p.apart (held c).none ∙ sum_cong m _ _ (λ i h. (held c).same i h)
