-- A sum over the numbers below n, taken in another order. Laws.
use Rattle.std.specs.Prelude.{ℕ, ◌<◌, ◌≡◌, refl, Bool, true, false, eqb}
use Rattle.std.proofs.Common.{sym, ap, ◌∙◌, eq-eqb, eqb-true}
use Rattle.runlength.specs.Sum.{sum, only}
use Rattle.runlength.specs.SumLaws.{sum_cong, sum_swap, sum_pick}
use Rattle.runlength.proofs.ApartLaws.{same_test_by}

-- s takes the numbers below n to the numbers below n, each from exactly one
pub record Reorders (n : ℕ) (s : ℕ → ℕ) : Type 0 where
  pub below : (i : ℕ) → i < n → s i < n
  pub from : (c : ℕ) → c < n → (i : ℕ) × (i < n) × (s i ≡ c)
  pub once : (i j : ℕ) → i < n → j < n → s i ≡ s j → i ≡ j

module _ {n : ℕ} {s : ℕ → ℕ} (r : Reorders n s) where
  from_one : (c x : ℕ) → c < n → sum n (λ i. only (eqb (s i) c) x) ≡ x
  from_one c x h =
      let o = r.from c h in
      sum_cong n _ (λ i. only (eqb o.0 i) x) (λ i l. ap (λ b. only b x)
      (same_test_by (eqb (s i) c) (eqb o.0 i)
      (λ e. eq-eqb o.0 i (r.once o.0 i o.1 l (o.2 ∙ sym (eqb-true (s i) c e))))
      (λ e. eq-eqb (s i) c (ap s (sym (eqb-true o.0 i e)) ∙ o.2))))
      ∙ sum_pick n o.0 x o.1

  to_one : (f : ℕ → ℕ) (i : ℕ) → i < n → sum n (λ c. only (eqb (s i) c) (f c)) ≡ f (s i)
  to_one f i h =
      sum_cong n _ (λ c. only (eqb (s i) c) (f (s i))) (λ c l. go c (eqb (s i) c) refl)
      ∙ sum_pick n (s i) (f (s i)) (r.below i h)
    where
      go : (c : ℕ) (b : Bool) → eqb (s i) c ≡ b → only b (f c) ≡ only b (f (s i))
      go c true e = ap f (sym (eqb-true (s i) c e))
      go c false e = refl

  pub reordered : (f : ℕ → ℕ) → sum n (λ i. f (s i)) ≡ sum n f
  reordered f =
      sum_cong n _ _ (λ i h. sym (to_one f i h))
      ∙ sum_swap n n (λ i c. only (eqb (s i) c) (f c))
      ∙ sum_cong n _ _ (λ c h. from_one c (f c) h)
