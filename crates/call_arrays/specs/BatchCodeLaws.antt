-- The code of a batch, case by case, by the number and the place of what refused it. Laws.
use Rattle.std.specs.Prelude.{ℕ, ◌≡◌, Some, None}
use Rattle.std.proofs.Common.{◌∙◌, eq-eqb, ne_eqb}
use Rattle.batch.specs.declared.Batch.{Batch}
use Rattle.call_arrays.specs.BatchArrays.{batch_checked}
use Rattle.codes.specs.Codes.{check_code_by, code_by}

module _ {R : Type 0} (number place : R → ℕ) (b : Batch R) where
  pub taken_code : (b.taken ≡ 0 → ⊥) → 0 ≡ check_code_by number place (batch_checked b)
  taken_code n = rw (ne_eqb b.taken 0 n)

  -- no reading was taken: for want of one, or for a refusal
  module _ (none : b.taken ≡ 0) where
    pub unrefused_code : b.refusal ≡ None → 0 ≡ check_code_by number place (batch_checked b)
    unrefused_code z = rw (eq-eqb b.taken 0 none, z)

    pub refused_code : {x : R} → b.refusal ≡ Some x → {r : ℕ} → r ≡ code_by (number x) (place x) → r ≡ check_code_by number place (batch_checked b)
    refused_code n e = e ∙ rw (eq-eqb b.taken 0 none, n)
