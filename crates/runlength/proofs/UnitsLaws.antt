-- The unrounded units of the states against the sequences: they sum to the exact survival. Laws.
use Rattle.std.specs.Prelude.{◌≡◌}
use Rattle.std.proofs.Math.Path.{sym, ap}
use Rattle.std.proofs.Common.{◌∙◌, add-suc, suc-add, zero-add, add-zero}
use Prim.Native.Nat.{ℕ, zero, suc, ◌+◌, ◌*◌}
use Rattle.std.proofs.Math.Nat.{mul-one, one-mul}
use Rattle.runlength.specs.Sum.{sum}
use Rattle.runlength.specs.SumLaws.{sum_cong}
use Rattle.runlength.specs.Automaton.{exact_survival_from, exact_survival}
use Rattle.runlength.specs.Chain.{Chain, Proper}
use Rattle.runlength.specs.Flow.{exact_units}
use Rattle.runlength.proofs.FlowLaws.{sum_pick_mul, push}
use Rattle.runlength.proofs.BackLaws.{survival_none, survival_step}

module _ (c : Chain) (proper : Proper c) where
  -- n points forwards to the states, then the survival of m points on from each, is the survival of n + m points
  pub units_meet_survival : (n m : ℕ)
      → sum c.size (λ s. exact_units c n s * exact_survival_from c.automaton c.weight m s)
      ≡ exact_survival_from c.automaton c.weight (n + m) c.automaton.start
  unfolding exact_units
  units_meet_survival zero m =
      sum_pick_mul c.size c.automaton.start 1 (exact_survival_from c.automaton c.weight m) proper.start_in
      ∙ one-mul _
      ∙ ap (λ k. exact_survival_from c.automaton c.weight k c.automaton.start) (sym (zero-add m))
  units_meet_survival (suc n) m =
      push c proper (exact_units c n) (exact_survival_from c.automaton c.weight m)
      ∙ sum_cong c.size _ _ (λ s l. ap (λ k. exact_units c n s * k) (sym (survival_step c.automaton c.weight m s)))
      ∙ units_meet_survival n (suc m)
      ∙ ap (λ k. exact_survival_from c.automaton c.weight k c.automaton.start) (add-suc n m ∙ sym (suc-add n m))

  -- the exact survival is the sum of the unrounded units
  pub survival_of_units : (n : ℕ) → exact_survival c.automaton c.weight n ≡ sum c.size (exact_units c n)
  unfolding exact_survival
  survival_of_units n =
      sym
      (sum_cong c.size _ _ (λ s l. sym (ap (λ k. exact_units c n s * k) (survival_none c.automaton c.weight s) ∙ mul-one (exact_units c n s)))
      ∙ units_meet_survival n 0
      ∙ ap (λ k. exact_survival_from c.automaton c.weight k c.automaton.start) (add-zero n))
