-- A call of a batch, by its code.
use Rattle.std.specs.Prelude.{ℕ, ◌≡◌, List, ℤ}
use Rattle.std.proofs.Common.{sym, ◌∙◌, eq-eqb, ne_eqb}
use Rattle.rules.specs.declared.RuleList.{RuleList}
use Rattle.monitor.specs.declared.Monitor.{Monitor}
use Rattle.rules.specs.declared.refusal.Refusal.{Refusal}
use Rattle.batch.specs.declared.Batch.{Batch}
use Rattle.batch.specs.Batch.{batch_of}
use Rattle.call_arrays.specs.StepArrays.{state_as, points_as}
use Rattle.call_arrays.specs.BatchArrays.{batch_checked, batch_as}
use Rattle.capi.specs.BatchCall.{BatchCall}
use Rattle.codes.specs.Codes.{check_code}

module _ (b : Batch Refusal) (s p a : List ℕ) (r : ℕ) (code : r ≡ check_code (batch_checked b)) where
  pub batch_refused : (r ≡ 0 → ⊥) → BatchCall b s p a s p a r
  batch_refused n =
      let t = ne_eqb (check_code (batch_checked b)) 0 (λ z. n (code ∙ z)) in
      record { code = code; state = rw t; points = rw t; answer = rw t }

  pub batch_taken : r ≡ 0 → (s' p' a' : List ℕ) → s' ≡ state_as b.next s → p' ≡ points_as b.next p → a' ≡ batch_as b a → BatchCall b s p a s' p' a' 0
  batch_taken z s' p' a' es ep ea =
      let zero : check_code (batch_checked b) ≡ 0 = sym code ∙ z in
      let t = eq-eqb (check_code (batch_checked b)) 0 zero in
      record { code = sym zero; state = rw t es; points = rw t ep; answer = rw t ea }

-- x is the batch of the list k that the call made of the slots, and of the centre c as it was read back
pub same_batch : {l k : RuleList} {centre c : ℤ} → k ≡ l → c ≡ centre → (m : Monitor) (sigma : ℕ) (xs : List ℤ) (x : Batch Refusal)
    → x ≡ batch_of k m c sigma xs → x ≡ batch_of l m centre sigma xs
same_batch {l} {k} {centre} {c} made e m sigma xs x is = is ∙ rw (made, e)

pub same_call : {b x : Batch Refusal} {s p a s' p' a' : List ℕ} {r : ℕ} → x ≡ b → BatchCall x s p a s' p' a' r → BatchCall b s p a s' p' a' r
same_call e call = rw (← e) call
