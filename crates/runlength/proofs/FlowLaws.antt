-- Laws of one point forwards: what flows in is what flowed out, and a step keeps an order.
use Rattle.std.specs.Prelude.{◌≡◌, refl, Bool, ℕ, ◌+◌, ◌*◌, ◌≤◌, ◌<◌, T, eqb}
use Rattle.std.proofs.Math.Path.{sym, ap}
use Rattle.std.proofs.Common.{◌∙◌, mul-one, eqb→eq}
use Rattle.std.proofs.Math.Bool.{true, false}
use Rattle.std.proofs.Math.Nat.{mul_assoc, mul-le-mul_right}
use native.Mathlib.Omega.{arith}
use Rattle.runlength.specs.Sum.{sum, only}
use Rattle.runlength.specs.SumLaws.{sum_cong, sum_add, sum_mul, sum_mul_right, sum_none, sum_swap, sum_pick, sum_scale}
use Rattle.runlength.specs.Automaton.{Move, quiet, signal, after}
use Rattle.runlength.specs.Chain.{Chain, Proper, inflow, signalled}
use Rattle.runlength.specs.Flow.{step_back}

-- a sum over n places of which only the place r counts
pub sum_pick_mul : (n r x : ℕ) (g : ℕ → ℕ) → r < n → sum n (λ t. only (eqb r t) x * g t) ≡ x * g r
sum_pick_mul n r x g h = sum_cong n _ _ (λ t l. each t (eqb r t) (eqb→eq r t)) ∙ sum_pick n r (x * g r) h
  where
    each : (t : ℕ) (b : Bool) → (T b → r ≡ t) → only b x * g t ≡ only b (x * g r)
    each t true e = ap (λ s. x * g s) (sym (e tt))
    each t false e = omega arith

-- the same of a move: only the state that it leads to counts
move_pick : (n : ℕ) (m : Move ℕ) → ((t : ℕ) → m ≡ quiet t → t < n) → (x : ℕ) (g : ℕ → ℕ)
    → sum n (λ t. after m 0 (λ r. only (eqb r t) x) * g t) ≡ x * after m 0 g
move_pick n (quiet r) h x g = sum_pick_mul n r x g (h r refl)
move_pick n signal h x g = sum_none n _ (λ t l. omega arith) ∙ omega arith

module _ (c : Chain) (proper : Proper c) where
  -- what flows into the states, weighed by g, is what the states hold, weighed by one step back of g
  pub push : (u g : ℕ → ℕ) → sum c.size (λ t. inflow c u t * g t) ≡ sum c.size (λ s. u s * step_back c.automaton c.weight g s)
  unfolding inflow step_back
  push u g =
      simp (← sum_mul_right)
      (sum_swap c.size c.size _
      ∙ sum_cong c.size _ _ (λ s l.
      sum_swap c.size c.automaton.zones _
      ∙ sum_cong c.automaton.zones _ _ (λ z i.
      move_pick c.size (c.automaton.move s z) (λ t. proper.closed s z t l i) (u s * c.weight z) g
      ∙ mul_assoc (u s) (c.weight z) (after (c.automaton.move s z) 0 g))
      ∙ sum_mul c.automaton.zones (u s) _))

  -- nothing is lost in a step: what flows into the states and what signals is base times what the states held
  pub step_conservation : (u : ℕ → ℕ) → sum c.size (inflow c u) + signalled c u ≡ sum c.size u * c.base
  unfolding signalled step_back
  step_conservation u =
      ap (λ k. k + signalled c u) (sum_cong c.size _ _ (λ t l. sym (mul-one (inflow c u t))) ∙ push u (λ t. 1))
      ∙ sym (sum_add c.size _ _)
      ∙ sum_cong c.size _ _ (λ s l.
      simp (← sum_mul)
      (sym (sum_add c.automaton.zones _ _)
      ∙ sum_cong c.automaton.zones _ _ (λ z i. each (c.automaton.move s z) (u s) (c.weight z))
      ∙ sum_mul c.automaton.zones (u s) c.weight
      ∙ ap (λ k. u s * k) proper.weights))
      ∙ sum_mul_right c.size c.base u
    where
      each : (m : Move ℕ) (a w : ℕ) → a * (w * after m 0 (λ t. 1)) + after m (a * w) (λ r. 0) ≡ a * w
      each (quiet t) a w = omega arith
      each signal a w = omega arith

module _ (c : Chain) (u v : ℕ → ℕ) (a b : ℕ) (order : (s : ℕ) → u s * a ≤ v s * b) where
  -- what flows into a state keeps an order between multiples
  pub inflow_scale : (t : ℕ) → inflow c u t * a ≤ inflow c v t * b
  unfolding inflow
  inflow_scale t =
      sum_scale c.size _ _ a b
      (λ s l. sum_scale c.automaton.zones _ _ a b (λ z i. each (c.automaton.move s z) (c.weight z) (u s) (v s) (order s)))
    where
      part : (o : Bool) (w x y : ℕ) → x * a ≤ y * b → only o (x * w) * a ≤ only o (y * w) * b
      part true w x y k = omega (arith, mul-le-mul_right w k)
      part false w x y k = omega arith

      each : (m : Move ℕ) (w x y : ℕ) → x * a ≤ y * b → after m 0 (λ r. only (eqb r t) (x * w)) * a ≤ after m 0 (λ r. only (eqb r t) (y * w)) * b
      each (quiet r) w x y k = part (eqb r t) w x y k
      each signal w x y k = omega arith

  -- what signals keeps an order between multiples
  pub signalled_scale : signalled c u * a ≤ signalled c v * b
  unfolding signalled
  signalled_scale =
      sum_scale c.size _ _ a b
      (λ s l. sum_scale c.automaton.zones _ _ a b (λ z i. each (c.automaton.move s z) (c.weight z) (u s) (v s) (order s)))
    where
      each : (m : Move ℕ) (w x y : ℕ) → x * a ≤ y * b → after m (x * w) (λ r. 0) * a ≤ after m (y * w) (λ r. 0) * b
      each (quiet r) w x y k = omega arith
      each signal w x y k = omega (arith, mul-le-mul_right w k)
