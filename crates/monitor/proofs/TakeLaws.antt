-- A state stays one that can be given, so points can be taken one after another with no check between them: the answers are those of the
-- steps.
use Rattle.std.specs.Prelude.{◌≡◌, true, ℕ, ◌+◌, ◌≤◌, ◌<◌, length, Ok}
use Rattle.std.proofs.Math.Path.{refl}
use Rattle.std.proofs.Math.Logic.{⊎_elim}
use mathlib.Core.List.{List, [], ◌∷◌}
use Rattle.std.proofs.Common.{eq-zero-or-pos, arith}
use Rattle.rules.specs.declared.Rule.{Rule}
use Rattle.rules.specs.declared.RuleList.{RuleList}
use Rattle.rules.specs.Bounds.{zone_count, max_number}
use Rattle.rules.specs.Check.{active_rules, check_of}
use Rattle.rules.proofs.CheckLaws.{accepted}
use Rattle.rules.specs.InBounds.{AllInBounds}
use Rattle.monitor.specs.declared.Monitor.{Monitor}
use Rattle.window.specs.State.{valid_state, state_mask, next_state}
use Rattle.monitor.proofs.StepLaws.{rules_accepted, step_signal, step_quiet, take_signal, take_quiet}
use Rattle.monitor.specs.Take.{taken_of, next_of, taken_answers}
use Rattle.monitor.specs.Calls.{monitor_answers}
use Rattle.runlength.specs.Sequence.{AllBelow}
use Rattle.window.proofs.GivenLaws.{fresh_valid, valid_next}

-- ---- whatever the count

-- a point that is taken leads from a monitor that can be given to one that can be given
pub taken_valid : (rs : List Rule) → AllInBounds rs → (m : Monitor) (z : ℕ) → z < zone_count → valid_state m.count rs m.state ≡ true
    → valid_state (next_of (taken_of rs m z)).count rs (next_of (taken_of rs m z)).state ≡ true
taken_valid rs p m z zone v =
    ⊎_elim
    (λ (n : state_mask rs m.state z ≡ 0). rw (take_quiet rs m z n) (valid_next rs p m.count m.state z zone v n))
    (λ (n : 0 < state_mask rs m.state z). rw (take_signal rs m z (λ y. omega arith)) (fresh_valid rs p))
    (eq-zero-or-pos (state_mask rs m.state z))

-- ---- a list of points

module _ (l : RuleList) (a : check_of l ≡ Ok tt) where
  -- from a monitor that can be given, zones that exist and room in the count: taking the points answers as stepping does
  pub taken_answers_lem : (m : Monitor) → valid_state m.count (active_rules l) m.state ≡ true → (zs : List ℕ) → AllBelow zone_count zs → m.count + length zs ≤ max_number → monitor_answers l m zs ≡ taken_answers (active_rules l) m zs
  unfolding monitor_answers taken_answers AllBelow
  taken_answers_lem m v [] p q = refl
  taken_answers_lem m v (z ∷ zs) p q =
      let rs = active_rules l in
      let bounds = (accepted l a).2 in
      ⊎_elim
      (λ (n : state_mask rs m.state z ≡ 0).
      let next = valid_next rs bounds m.count m.state z p.0 v n in
      rw (
        rules_accepted l a m z,
        step_quiet rs m z p.0 v (omega arith) n,
        take_quiet rs m z n,
        taken_answers_lem (record { state = next_state rs m.state z; count = m.count + 1 }) next zs p.1 (omega arith),
      ))
      (λ (n : 0 < state_mask rs m.state z).
      rw (
        rules_accepted l a m z,
        step_signal rs m z p.0 v (omega arith) (λ y. omega arith),
        take_signal rs m z (λ y. omega arith),
        taken_answers_lem (record { state = 0; count = 0 }) (fresh_valid rs bounds) zs p.1 (omega arith),
      ))
      (eq-zero-or-pos (state_mask rs m.state z))
