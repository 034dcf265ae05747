-- Calls of the zone and of the step, by the answers of the operations.
use Rattle.std.specs.Prelude.{ℕ, ◌≡◌, List, ℤ, Result}
use Rattle.std.proofs.Common.{sym, ap, ◌∙◌}
use Rattle.rules.specs.Check.{checked}
use Rattle.rules.specs.declared.refusal.Refusal.{Refusal}
use Rattle.rules.specs.declared.RuleList.{RuleList}
use Rattle.monitor.specs.declared.Monitor.{Monitor}
use Rattle.monitor.specs.declared.Step.{Step}
use Rattle.monitor.specs.Zone.{zone_of}
use Rattle.monitor.specs.Step.{step_of}
use Rattle.capi.specs.MonitorCall.{zone_after, ZoneCall, state_after, points_after, answer_after, StepCall}
use Rattle.codes.specs.Codes.{check_code}

-- x and c are the reading and the centre as the operation was given them, t is its answer
pub zone_call : {reading centre x c : ℤ} → x ≡ reading → c ≡ centre → (sigma : ℕ) (z z' : List ℕ) (r : ℕ) (a t : Result ℕ Refusal)
    → a ≡ zone_of x c sigma → a ≡ t → r ≡ check_code (checked t) → z' ≡ zone_after t z → ZoneCall reading centre sigma z z' r
zone_call {reading} {centre} {x} {c} ex ec sigma z z' r a t e q code after =
    let is : zone_of reading centre sigma ≡ t = rw (← ex, ← ec) (sym e ∙ q) in
    record { code = code ∙ sym (ap (λ (y : Result ℕ Refusal). check_code (checked y)) is); zone = after ∙ sym (ap (λ (y : Result ℕ Refusal). zone_after y z) is) }

-- k is the list that the call made of the slots, b the step's answer, which is t
pub step_call : (l k : RuleList) (m : Monitor) (z : ℕ) (s p a s' p' a' : List ℕ) (r : ℕ) (b t : Result Step Refusal) → k ≡ l → b ≡ step_of k m z → b ≡ t
    → r ≡ check_code (checked t) → s' ≡ state_after t s → p' ≡ points_after t p → a' ≡ answer_after t a → StepCall l m z s p a s' p' a' r
step_call l k m z s p a s' p' a' r b t made e q code state points answer =
    let is : step_of l m z ≡ t = ap (λ (y : RuleList). step_of y m z) (sym made) ∙ sym e ∙ q in
    record {
      code = code ∙ sym (ap (λ (y : Result Step Refusal). check_code (checked y)) is);
      state = state ∙ sym (ap (λ (y : Result Step Refusal). state_after y s) is);
      points = points ∙ sym (ap (λ (y : Result Step Refusal). points_after y p) is);
      answer = answer ∙ sym (ap (λ (y : Result Step Refusal). answer_after y a) is);
    }
