-- TO BELIEVE: calls of the zone and of the monitor's step. Definitions.
use Rattle.std.specs.Prelude.{ℕ, ◌≡◌, List, ℤ, get_or, set, Err, Ok, Result}
use Rattle.rules.specs.declared.refusal.Refusal.{Refusal}
use Rattle.rules.specs.Check.{checked, Checked}
use Rattle.rules.specs.declared.RuleList.{RuleList}
use Rattle.monitor.specs.declared.Monitor.{Monitor}
use Rattle.monitor.specs.declared.Step.{Step}
use Rattle.monitor.specs.Zone.{zone_of}
use Rattle.monitor.specs.Step.{monitor_at, step_of}
use Rattle.codes.specs.Codes.{check_code}
use Rattle.call_arrays.specs.StepArrays.{state_as, points_as, answer_as}

-- ---- the zone of a reading

abbrev pub zone_after : Result ℕ Refusal → List ℕ → List ℕ
zone_after (Ok z) zone = set zone 0 z
zone_after (Err x) zone = zone

pub record ZoneCall (reading centre : ℤ) (sigma : ℕ) (z z' : List ℕ) (r : ℕ) : Type 0 where
  pub code : r ≡ check_code (checked (zone_of reading centre sigma))
  pub zone : z' ≡ zone_after (zone_of reading centre sigma) z

-- ---- the step

-- the monitor that the caller keeps: a state and the points counted, each in an array of one number
abbrev pub monitor_of : List ℕ → List ℕ → Monitor
monitor_of state points = monitor_at (get_or state 0 0) (get_or points 0 0)

-- the three arrays after a step; a refusal leaves them as they were
abbrev pub state_after : Result Step Refusal → List ℕ → List ℕ
state_after (Err x) state = state
state_after (Ok (Step.Quiet count next)) state = state_as next state
state_after (Ok (Step.Signal count mask next)) state = state_as next state

abbrev pub points_after : Result Step Refusal → List ℕ → List ℕ
points_after (Err x) points = points
points_after (Ok (Step.Quiet count next)) points = points_as next points
points_after (Ok (Step.Signal count mask next)) points = points_as next points

abbrev pub answer_after : Result Step Refusal → List ℕ → List ℕ
answer_after (Err x) answer = answer
answer_after (Ok (Step.Quiet count next)) answer = answer_as count 0 answer
answer_after (Ok (Step.Signal count mask next)) answer = answer_as count mask answer

pub record StepCall (l : RuleList) (m : Monitor) (z : ℕ) (s p a s' p' a' : List ℕ) (r : ℕ) : Type 0 where
  pub code : r ≡ check_code (checked (step_of l m z))
  pub state : s' ≡ state_after (step_of l m z) s
  pub points : p' ≡ points_after (step_of l m z) p
  pub answer : a' ≡ answer_after (step_of l m z) a
