-- Laws of sums over all sequences of n zones.
use Rattle.std.specs.Prelude.{◌≡◌, length}
use Rattle.std.proofs.Math.Path.{refl}
use Rattle.std.proofs.Common.{ap, ◌∙◌}
use mathlib.Core.List.{List, [], ◌∷◌}
use Prim.Native.Nat.{ℕ, zero, suc, ◌+◌, ◌*◌}
use Rattle.runlength.specs.Sum.{sum_sequences}
use Rattle.runlength.specs.SumLaws.{sum_cong, sum_add, sum_mul, sum_none}
use Rattle.runlength.specs.Sequence.{AllBelow}

module _ (zones : ℕ) where
  -- functions that agree on every sequence of n zones have equal sums
  pub sequences_cong : (n : ℕ) {f g : List ℕ → ℕ} → ((q : List ℕ) → length q ≡ n → AllBelow zones q → f q ≡ g q) → sum_sequences zones n f ≡ sum_sequences zones n g
  unfolding sum_sequences AllBelow
  sequences_cong zero e = e [] refl tt
  sequences_cong (suc n) e = sum_cong zones _ _ (λ z l. sequences_cong n (λ q k i. e (z ∷ q) (ap suc k) (l, i)))

  -- functions that agree on every list have equal sums
  pub sequences_cong_all : (n : ℕ) {f g : List ℕ → ℕ} → ((q : List ℕ) → f q ≡ g q) → sum_sequences zones n f ≡ sum_sequences zones n g
  sequences_cong_all n e = sequences_cong n (λ q k i. e q)

  -- the sum of two sums
  pub sequences_add : (n : ℕ) (f g : List ℕ → ℕ) → sum_sequences zones n (λ q. f q + g q) ≡ sum_sequences zones n f + sum_sequences zones n g
  unfolding sum_sequences
  sequences_add zero f g = refl
  sequences_add (suc n) f g = sum_cong zones _ _ (λ z l. sequences_add n (λ q. f (z ∷ q)) (λ q. g (z ∷ q))) ∙ sum_add zones _ _

  -- a factor before the sum
  pub sequences_mul : (n k : ℕ) (f : List ℕ → ℕ) → sum_sequences zones n (λ q. k * f q) ≡ k * sum_sequences zones n f
  unfolding sum_sequences
  sequences_mul zero k f = refl
  sequences_mul (suc n) k f = sum_cong zones _ _ (λ z l. sequences_mul n k (λ q. f (z ∷ q))) ∙ sum_mul zones k _

  -- a sum of zeros
  pub sequences_none : (n : ℕ) (f : List ℕ → ℕ) → ((q : List ℕ) → length q ≡ n → AllBelow zones q → f q ≡ 0) → sum_sequences zones n f ≡ 0
  unfolding sum_sequences AllBelow
  sequences_none zero f e = e [] refl tt
  sequences_none (suc n) f e = sum_none zones _ (λ z l. sequences_none n (λ q. f (z ∷ q)) (λ q k i. e (z ∷ q) (ap suc k) (l, i)))
