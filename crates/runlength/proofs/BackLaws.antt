-- Laws of one point backwards, of any automaton: the exact survival by its first point, and what the step keeps.
use Rattle.std.specs.Prelude.{◌≡◌, Bool, false, not}
use Rattle.std.proofs.Math.Path.{refl, sym, ap}
use Rattle.std.proofs.Common.{◌∙◌, mul-zero}
use Rattle.std.proofs.Math.Bool.{true}
use Prim.Native.Nat.{ℕ, zero, suc, ◌+◌, ◌*◌}
use native.Mathlib.Omega.{arith}
use Rattle.runlength.specs.Sum.{sum, only, sum_sequences}
use Rattle.runlength.specs.SumLaws.{sum_cong, sum_add, sum_mul_right, sum_none}
use Rattle.runlength.specs.SequenceLaws.{sequences_cong_all, sequences_mul, sequences_none}
use Rattle.runlength.specs.Automaton.{Automaton, Move, quiet, signal, after, product, signals, exact_survival_from}
use Rattle.runlength.specs.Flow.{step_back}

-- a factor goes into the part that a test keeps
pub mul_only : (b : Bool) (k x : ℕ) → only b (k * x) ≡ k * only b x
mul_only true k x = refl
mul_only false k x = omega arith

module _ {A : Type 0} (a : Automaton A) (weight : ℕ → ℕ) where
  -- with no point left the survival is one
  pub survival_none : (s : A) → exact_survival_from a weight 0 s ≡ 1
  unfolding exact_survival_from sum_sequences signals product
  survival_none s = refl

  -- the survival by its first point, then the rest from where it leads
  pub survival_step : (n : ℕ) (s : A) → exact_survival_from a weight (suc n) s ≡ step_back a weight (exact_survival_from a weight n) s
  unfolding exact_survival_from sum_sequences product signals step_back
  survival_step n s = sum_cong a.zones _ _ (λ z l. each (a.move s z) (weight z))
    where
      each : (m : Move A) (w : ℕ)
          → sum_sequences a.zones n (λ q. only (not (after m true (λ t. signals a t q))) (w * product weight q)) ≡ w * after m 0 (exact_survival_from a weight n)
      each (quiet t) w = sequences_cong_all a.zones n (λ q. mul_only (not (signals a t q)) w (product weight q)) ∙ sequences_mul a.zones n w _
      each signal w = sequences_none a.zones n _ (λ q k i. refl) ∙ sym (mul-zero w)

  -- a step back of a sum, one part with a factor
  step_back_linear : (f g : A → ℕ) (k : ℕ) (s : A) → step_back a weight (λ t. f t + g t * k) s ≡ step_back a weight f s + step_back a weight g s * k
  unfolding step_back
  step_back_linear f g k s =
      sum_cong a.zones _ _ (λ z l. each (a.move s z) (weight z))
      ∙ sum_add a.zones (λ z. weight z * after (a.move s z) 0 f) (λ z. weight z * after (a.move s z) 0 g * k)
      ∙ ap (λ j. step_back a weight f s + j) (sum_mul_right a.zones k _)
    where
      each : (m : Move A) (w : ℕ) → w * after m 0 (λ t. f t + g t * k) ≡ w * after m 0 f + w * after m 0 g * k
      each (quiet t) w = omega arith
      each signal w = omega arith

  -- a step back of nothing
  step_back_none : (s : A) → step_back a weight (λ t. 0) s ≡ 0
  unfolding step_back
  step_back_none s = sum_none a.zones _ (λ z l. each (a.move s z) (weight z))
    where
      each : (m : Move A) (w : ℕ) → w * after m 0 (λ t. 0) ≡ 0
      each (quiet t) w = omega arith
      each signal w = omega arith

  -- a step back of a sum of multiples
  pub step_back_sum : (h : ℕ) (g : ℕ → A → ℕ) (k : ℕ → ℕ) (s : A)
      → sum h (λ n. step_back a weight (g n) s * k n) ≡ step_back a weight (λ t. sum h (λ n. g n t * k n)) s
  unfolding sum
  step_back_sum zero g k s = sym (step_back_none s)
  step_back_sum (suc h) g k s =
      ap (λ j. j + step_back a weight (g h) s * k h) (step_back_sum h g k s) ∙ sym (step_back_linear (λ t. sum h (λ n. g n t * k n)) (g h) (k h) s)
