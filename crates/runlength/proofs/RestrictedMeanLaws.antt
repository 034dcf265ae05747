-- The round-down table's restricted mean against the exact one, multiplied out. Laws.
use Rattle.std.specs.Prelude.{◌≡◌, refl, ℕ, zero, suc, ◌+◌, ◌-◌, ◌*◌, ◌^◌, ◌≤◌, ◌<◌}
use Rattle.std.proofs.Common.{ap, ◌∙◌, mul_assoc, arith, pow-add}
use Rattle.std.proofs.Math.Nat.{mul-le-mul_right, div-eq_of_eq-mul_left}
use Rattle.runlength.specs.Sum.{sum}
use Rattle.runlength.specs.SumLaws.{sum_add, sum_mul_right, sum_scale}
use Rattle.runlength.specs.Automaton.{exact_restricted_mean}
use Rattle.runlength.specs.Chain.{Chain, Proper, survival, restricted_mean, mean_error_bound}
use Rattle.runlength.proofs.MeanLaws.{mean_of_survivals}
use Rattle.runlength.proofs.CdfBoundsLaws.{survival_lower, survival_upper}

-- twice 0 + 1 + .. + (h - 1)
triangle : (h : ℕ) → 2 * sum h (λ n. n) + h ≡ h * h
unfolding sum
triangle zero = refl
triangle (suc h) = omega (arith, triangle h)

twice_triangle : (h : ℕ) → h * (h - 1) ≡ 2 * sum h (λ n. n)
unfolding sum
twice_triangle zero = refl
twice_triangle (suc h) = let e : suc h - 1 ≡ h = omega arith in rw e (omega (arith, triangle h))

-- the error bound is one unit for each state and each point before, at each of the points 0 to h - 1
mean_error_bound_sum : (c : Chain) (h : ℕ) → mean_error_bound c h ≡ sum h (λ n. n * c.size)
unfolding mean_error_bound
mean_error_bound_sum c h =
    div-eq_of_eq-mul_left (omega arith)
    (mul_assoc c.size h (h - 1) ∙ omega (arith, ap (λ k. c.size * k) (twice_triangle h), sum_mul_right h c.size (λ n. n)))

module _ (c : Chain) (proper : Proper c) where
  -- a power of the base in two factors
  split_power : (h n : ℕ) → n < h → c.base ^ h ≡ c.base ^ n * c.base ^ (h - n)
  split_power h n l = ap (λ k. c.base ^ k) (omega arith) ∙ pow-add c.base n (h - n)

  -- the table's restricted mean is never more than the exact one
  pub mean_lower : (h : ℕ) → restricted_mean c h * c.base ^ h ≤ exact_restricted_mean c.automaton c.weight h * c.whole
  unfolding restricted_mean
  mean_lower h =
      rw (mean_of_survivals c.automaton c.weight c.base proper.weights h)
      (sum_scale h (survival c) _ (c.base ^ h) c.whole
      (λ n l. rw (split_power h n l) (omega (arith, mul-le-mul_right (c.base ^ (h - n)) (survival_lower c proper n)))))

  -- the exact restricted mean is more than the table's by at most the error bound
  pub mean_upper : (h : ℕ) → exact_restricted_mean c.automaton c.weight h * c.whole ≤ (restricted_mean c h + mean_error_bound c h) * c.base ^ h
  unfolding restricted_mean
  mean_upper h =
      rw (
        mean_of_survivals c.automaton c.weight c.base proper.weights h,
        mean_error_bound_sum c h,
        ← (sum_add h (survival c) (λ n. n * c.size)),
      )
      (sum_scale h _ (λ n. survival c n + n * c.size) c.whole (c.base ^ h)
      (λ n l. rw (split_power h n l) (omega (arith, mul-le-mul_right (c.base ^ (h - n)) (survival_upper c proper n)))))
