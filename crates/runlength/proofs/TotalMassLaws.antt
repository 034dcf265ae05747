-- The total mass of all sequences of n zones, and its two parts: those that signal and those that do not. Laws.
use Rattle.std.specs.Prelude.{◌≡◌, Bool, true, false, not, ℕ, zero, suc, ◌+◌, ◌*◌, ◌^◌}
use Rattle.std.proofs.Math.Path.{sym}
use Rattle.std.proofs.Common.{ap₂, ◌∙◌, arith}
use Rattle.std.proofs.Math.Nat.{pow-zero, pow-succ'}
use Rattle.runlength.specs.Sum.{sum, only, sum_sequences}
use Rattle.runlength.specs.SumLaws.{sum_cong, sum_mul_right}
use Rattle.runlength.specs.SequenceLaws.{sequences_cong_all, sequences_add, sequences_mul}
use Rattle.runlength.specs.Automaton.{Automaton, product, signals, exact_cdf, exact_survival_from, exact_survival}

-- a part and its complement make the whole
only_split : (b : Bool) (x : ℕ) → only b x + only (not b) x ≡ x
only_split true x = omega arith
only_split false x = omega arith

-- the products of the weights over all sequences of n zones sum to base ^ n
pub product_total : (zones : ℕ) (weight : ℕ → ℕ) (base : ℕ) → sum zones weight ≡ base → (n : ℕ) → sum_sequences zones n (product weight) ≡ base ^ n
unfolding sum_sequences product
product_total zones weight base e zero = sym (pow-zero base)
product_total zones weight base e (suc n) =
    sum_cong zones _ _ (λ z l. sequences_mul zones n (weight z) (product weight))
    ∙ sum_mul_right zones (sum_sequences zones n (product weight)) weight
    ∙ ap₂ (λ a b. a * b) e (product_total zones weight base e n)
    ∙ sym (pow-succ' base n)

module _ {A : Type 0} (a : Automaton A) (weight : ℕ → ℕ) (base : ℕ) (weights : sum a.zones weight ≡ base) where
  -- the cdf and the survival are parts of one whole
  pub cdf_survival_total : (n : ℕ) → exact_cdf a weight n + exact_survival a weight n ≡ base ^ n
  unfolding exact_cdf exact_survival exact_survival_from
  cdf_survival_total n =
      sym (sequences_add a.zones n _ _)
      ∙ sequences_cong_all a.zones n (λ q. only_split (signals a a.start q) (product weight q))
      ∙ product_total a.zones weight base weights n
