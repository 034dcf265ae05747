-- TO BELIEVE: a call of a batch of readings. Definitions.
use Rattle.std.specs.Prelude.{ℕ, ◌≡◌, cond, List, eqb}
use Rattle.rules.specs.declared.refusal.Refusal.{Refusal}
use Rattle.batch.specs.declared.Batch.{Batch}
use Rattle.call_arrays.specs.StepArrays.{state_as, points_as}
use Rattle.codes.specs.Codes.{check_code}
use Rattle.call_arrays.specs.BatchArrays.{batch_checked, batch_as}

-- the answer's number, and the three arrays as they then are: a refusal leaves them as they were
pub record BatchCall (b : Batch Refusal) (s p a s' p' a' : List ℕ) (r : ℕ) : Type 0 where
  pub code : r ≡ check_code (batch_checked b)
  pub state : s' ≡ cond (eqb (check_code (batch_checked b)) 0) (state_as b.next s) s
  pub points : p' ≡ cond (eqb (check_code (batch_checked b)) 0) (points_as b.next p) p
  pub answer : a' ≡ cond (eqb (check_code (batch_checked b)) 0) (batch_as b a) a
