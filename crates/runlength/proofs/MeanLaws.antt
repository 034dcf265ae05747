-- The exact restricted mean of any automaton is the sum of its exact survivals. Laws.
use Rattle.std.specs.Prelude.{◌≡◌}
use Rattle.std.proofs.Math.Path.{refl, sym, ap, ap₂, fun_ext}
use Rattle.std.proofs.Common.{◌∙◌, one-mul, arith}
use Prim.Native.Nat.{ℕ, zero, suc, ◌+◌, ◌-◌, ◌*◌, ◌^◌}
use Rattle.std.proofs.Math.Nat.{pow-succ', suc-sub-suc, sub-zero}
use Rattle.runlength.specs.Sum.{sum, sum_sequences}
use Rattle.runlength.specs.SumLaws.{sum_cong, sum_add, sum_mul_right}
use Rattle.runlength.specs.SequenceLaws.{sequences_cong_all, sequences_add, sequences_mul}
use Rattle.runlength.specs.Automaton.{Automaton, Move, quiet, signal, after, product, run_length, exact_survival_from, exact_survival, exact_restricted_mean}
use Rattle.runlength.proofs.TotalMassLaws.{product_total}
use Rattle.runlength.specs.Flow.{step_back, exact_restricted_mean_from}
use Rattle.runlength.proofs.BackLaws.{survival_none, survival_step, step_back_sum}

-- a sum by its first term
sum_first : (h : ℕ) (f : ℕ → ℕ) → sum (suc h) f ≡ f 0 + sum h (λ n. f (suc n))
unfolding sum
sum_first zero f = omega arith
sum_first (suc h) f = omega (arith, sum_first h f)

module _ {A : Type 0} (a : Automaton A) (weight : ℕ → ℕ) (base : ℕ) (weights : sum a.zones weight ≡ base) where
  -- the mean by its first point: one point of everything, then the rest from where it leads
  mean_step : (h : ℕ) (s : A) → exact_restricted_mean_from a weight (suc h) s ≡ base ^ suc h + step_back a weight (exact_restricted_mean_from a weight h) s
  unfolding exact_restricted_mean_from sum_sequences product run_length step_back
  mean_step h s =
      sum_cong a.zones _ _ (λ z l. each (a.move s z) (weight z))
      ∙ sum_add a.zones (λ z. weight z * base ^ h) (λ z. weight z * after (a.move s z) 0 (exact_restricted_mean_from a weight h))
      ∙ ap (λ k. k + step_back a weight (exact_restricted_mean_from a weight h) s)
      (sum_mul_right a.zones (base ^ h) weight ∙ ap (λ k. k * base ^ h) weights ∙ sym (pow-succ' base h))
    where
      all : (w : ℕ) → sum_sequences a.zones h (λ q. w * product weight q) ≡ w * base ^ h
      all w = sequences_mul a.zones h w (product weight) ∙ ap (λ k. w * k) (product_total a.zones weight base weights h)

      each : (m : Move A) (w : ℕ)
          → sum_sequences a.zones h (λ q. w * product weight q * suc (after m 0 (λ t. run_length a t q)))
          ≡ w * base ^ h + w * after m 0 (exact_restricted_mean_from a weight h)
      each (quiet t) w =
          sequences_cong_all a.zones h (λ q. omega arith)
          ∙ sequences_add a.zones h (λ q. w * product weight q) (λ q. w * (product weight q * run_length a t q))
          ∙ ap₂ (λ x y. x + y) (all w) (sequences_mul a.zones h w (λ q. product weight q * run_length a t q))
      each signal w = sequences_cong_all a.zones h (λ q. omega arith) ∙ all w ∙ omega arith

  -- from any state, the restricted mean is the sum of the survivals of 0 to h - 1 points
  pub mean_of_survivals_from : (h : ℕ) (s : A) → exact_restricted_mean_from a weight h s ≡ sum h (λ n. exact_survival_from a weight n s * base ^ (h - n))
  unfolding exact_restricted_mean_from sum_sequences product sum run_length
  mean_of_survivals_from zero s = refl
  mean_of_survivals_from (suc h) s =
      mean_step h s
      ∙ ap₂ (λ x y. x + y)
      (sym (one-mul (base ^ suc h)) ∙ ap₂ (λ x k. x * base ^ k) (sym (survival_none a weight s)) (sym (sub-zero (suc h))))
      (ap (λ g. step_back a weight g s) (fun_ext (mean_of_survivals_from h))
      ∙ sym (step_back_sum a weight h (exact_survival_from a weight) (λ n. base ^ (h - n)) s)
      ∙ sum_cong h _ _ (λ n l. ap₂ (λ x y. x * base ^ y) (sym (survival_step a weight n s)) (sym (suc-sub-suc h n))))
      ∙ sym (sum_first h (λ n. exact_survival_from a weight n s * base ^ (suc h - n)))

  -- the restricted mean is the sum of the survivals of 0 to h - 1 points
  pub mean_of_survivals : (h : ℕ) → exact_restricted_mean a weight h ≡ sum h (λ n. exact_survival a weight n * base ^ (h - n))
  unfolding exact_restricted_mean exact_survival exact_restricted_mean_from
  mean_of_survivals h = mean_of_survivals_from h a.start
