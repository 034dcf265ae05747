-- What a step with accepted rules answers, case by case.
use Rattle.std.specs.Prelude.{◌≡◌, true, false, List, ℕ, ◌+◌, ◌≤◌, ◌<◌, Ok, Result, Err}
use Rattle.std.proofs.Math.Path.{refl, ap}
use Rattle.std.proofs.Common.{◌∙◌, arith}
use borrow.Author.Tests.{lt-ltb, le-ltb}
use Rattle.rules.specs.declared.Rule.{Rule}
use Rattle.rules.specs.declared.RuleList.{RuleList}
use Rattle.rules.specs.declared.refusal.Refusal.{Refusal}
use Rattle.rules.specs.Bounds.{zone_count, max_number}
use Rattle.rules.specs.Check.{active_rules, check_of}
use Rattle.rules.specs.Refusal.{bad_state, bad_zone, bad_count}
use Rattle.monitor.specs.declared.Monitor.{Monitor}
use Rattle.window.specs.declared.Move.{Move}
use Rattle.window.specs.declared.Move.TheVariants.{Quiet, Signal}
use Rattle.monitor.specs.declared.Step.{Step}
use Rattle.window.specs.State.{valid_state, state_mask, next_state, move_of}
use Rattle.monitor.specs.Step.{monitor_at, fresh_monitor, step_answer, accepted_step, step_of}
use Rattle.monitor.specs.Take.{taken_by, taken_of, step_taken}
use Rattle.monitor.specs.declared.Taken.{Taken}
use Rattle.window.specs.MoveLaws.{move_quiet, move_signal}

-- ---- the step

pub rules_accepted : (l : RuleList) → check_of l ≡ Ok tt → (m : Monitor) (z : ℕ)
    → step_of l m z ≡ accepted_step (active_rules l) m z
unfolding step_of accepted_step
rules_accepted l ok m z = rw ok

-- the answer to a point is no refusal
pub answered : (t : Move) (count : ℕ) (x : Refusal) → ◌≡◌ {A = Result Step Refusal} (Ok (step_answer t count)) (Err x) → ⊥
answered (Quiet s) count x e = let z : ◌≡◌ {A = ℕ} 0 1 = cc in omega arith
answered (Signal mask) count x e = let z : ◌≡◌ {A = ℕ} 0 1 = cc in omega arith

pub step_bad_zone : (rs : List Rule) (m : Monitor) (z : ℕ) → zone_count ≤ z → accepted_step rs m z ≡ Err bad_zone
unfolding accepted_step
step_bad_zone rs m z h = rw (le-ltb z zone_count h)

module _ (rs : List Rule) (m : Monitor) (z : ℕ) (zone : z < zone_count) where
  pub step_bad_state : valid_state m.count rs m.state ≡ false → accepted_step rs m z ≡ Err bad_state
  unfolding accepted_step
  step_bad_state f = rw (lt-ltb z zone_count zone, f)

  module _ (valid : valid_state m.count rs m.state ≡ true) where
    pub step_bad_count : max_number ≤ m.count → accepted_step rs m z ≡ Err bad_count
    unfolding accepted_step
    step_bad_count h = rw (lt-ltb z zone_count zone, valid, le-ltb m.count max_number h)

    -- an accepted step is its move, with the count
    pub step_move : m.count < max_number → accepted_step rs m z ≡ Ok (step_answer (move_of rs m.state z) (m.count + 1))
    unfolding accepted_step
    step_move h = rw (lt-ltb z zone_count zone, valid, lt-ltb m.count max_number h)

    pub step_signal : m.count < max_number → (state_mask rs m.state z ≡ 0 → ⊥) → accepted_step rs m z ≡ Ok (Step.Signal (m.count + 1) (state_mask rs m.state z) fresh_monitor)
    step_signal h e = step_move h ∙ rw (move_signal rs m.state z e)

    pub step_quiet : m.count < max_number → state_mask rs m.state z ≡ 0 → accepted_step rs m z ≡ Ok (Step.Quiet (m.count + 1) (monitor_at (next_state rs m.state z) (m.count + 1)))
    step_quiet h e = step_move h ∙ rw (move_quiet rs m.state z e)

-- ---- a point where nothing can be refused

module _ (rs : List Rule) (m : Monitor) (z : ℕ) where
  -- by its move
  pub taken_move : (t : Move) → move_of rs m.state z ≡ t → taken_of rs m z ≡ taken_by t (m.count + 1)
  unfolding taken_of
  taken_move t e = rw e

  pub take_signal : (state_mask rs m.state z ≡ 0 → ⊥) → taken_of rs m z ≡ Taken.Signal (state_mask rs m.state z)
  unfolding taken_of
  take_signal e = rw (move_signal rs m.state z e)

  pub take_quiet : state_mask rs m.state z ≡ 0 → taken_of rs m z ≡ Taken.Quiet (monitor_at (next_state rs m.state z) (m.count + 1))
  unfolding taken_of
  take_quiet e = rw (move_quiet rs m.state z e)

  -- where nothing is refused, a step is what taking the point says
  pub step_take : z < zone_count → valid_state m.count rs m.state ≡ true → m.count < max_number
      → accepted_step rs m z ≡ Ok (step_taken (m.count + 1) (taken_of rs m z))
  unfolding taken_of
  step_take zone valid h = step_move rs m z zone valid h ∙ ap Ok (go (move_of rs m.state z))
    where
      go : (t : Move) → step_answer t (m.count + 1) ≡ step_taken (m.count + 1) (taken_by t (m.count + 1))
      go (Quiet t) = refl
      go (Signal mask) = refl
