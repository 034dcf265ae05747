-- One call: a monitor that stands where the reference chart's row leads answers as the chart does, and stands there again after the call.
use Rattle.std.specs.Prelude.{◌≡◌, refl, true, List, [], ◌∷◌, ℕ, suc, ◌≤◌, ◌<◌, length, Result}
use Rattle.std.proofs.Common.{sym, ap, ◌∙◌, ⊎_elim, eq-zero-or-pos, add-one, arith}
use borrow.Author.Tests.{lt-ltb, le-ltb, eq-eqb, ne_eqb}
use Rattle.rules.specs.declared.Rule.{Rule}
use Rattle.rules.specs.declared.refusal.Refusal.{Refusal}
use Rattle.rules.specs.Bounds.{zone_count, max_number}
use Rattle.rules.specs.InBounds.{AllInBounds}
use Rattle.rules.specs.Refusal.{number_of, bad_zone, bad_count}
use Rattle.monitor.specs.declared.Monitor.{Monitor}
use Rattle.monitor.specs.declared.Step.{Step}
use Rattle.window.specs.WindowLaws.{le_or_lt}
use Rattle.window.specs.State.{valid_state}
use Rattle.monitor.specs.Step.{monitor_at, fresh_monitor, accepted_step}
use Rattle.monitor.proofs.StepLaws.{step_bad_zone, step_bad_count, step_signal, step_quiet}
use Rattle.window.specs.ReferenceChart.{refused, quiet, signal, row_mask, Charted, charted, chart_step}
use Rattle.monitor.specs.Calls.{answer_of, monitor_after}
use Rattle.window.specs.RowState.{state_of_row}
use Rattle.window.proofs.RowLaws.{valid_of_row, mask_of_row, next_of_row, empty_row_state, empty_row_mask}

-- ---- the chart's four cases

module _ (rs : List Rule) (row : List ℕ) (z : ℕ) where
  chart_bad_zone : zone_count ≤ z → chart_step rs row z ≡ charted (refused (number_of bad_zone)) row
  unfolding chart_step
  chart_bad_zone h = rw (le-ltb z zone_count h)

  module _ (zone : z < zone_count) where
    chart_bad_count : max_number ≤ length row → chart_step rs row z ≡ charted (refused (number_of bad_count)) row
    unfolding chart_step
    chart_bad_count q = rw (lt-ltb z zone_count zone, le-ltb (length row) max_number q)

    pub chart_quiet : length row < max_number → row_mask rs (z ∷ row) ≡ 0 → chart_step rs row z ≡ charted (quiet (suc (length row))) (z ∷ row)
    unfolding chart_step
    chart_quiet q n = rw (lt-ltb z zone_count zone, lt-ltb (length row) max_number q, eq-eqb (row_mask rs (z ∷ row)) 0 n)

    pub chart_signal : length row < max_number → (row_mask rs (z ∷ row) ≡ 0 → ⊥) → chart_step rs row z ≡ charted (signal (suc (length row)) (row_mask rs (z ∷ row))) []
    unfolding chart_step
    chart_signal q n = rw (lt-ltb z zone_count zone, lt-ltb (length row) max_number q, ne_eqb (row_mask rs (z ∷ row)) 0 n)

-- ---- the monitor of a row

abbrev pub monitor_of_row : List Rule → List ℕ → Monitor
monitor_of_row rs row = monitor_at (state_of_row rs row) (length row)

pub fresh_of_row : (rs : List Rule) → fresh_monitor ≡ monitor_of_row rs []
fresh_of_row rs = rw (empty_row_state rs)

-- the answers agree, the monitor is then the one of the chart's row, and no rule holds on that row
pub record CallAgrees (rs : List Rule) (row : List ℕ) (s : Result Step Refusal) (t : Charted) : Type 0 where
  pub answer : answer_of s ≡ t.answer
  pub after : monitor_after (monitor_of_row rs row) s ≡ monitor_of_row rs t.row
  pub quiet_row : row_mask rs t.row ≡ 0

module _ (rs : List Rule) (bounds : AllInBounds rs) (row : List ℕ) (e : row_mask rs row ≡ 0) (z : ℕ) where
  abbrev Agrees : Type 0
  Agrees = CallAgrees rs row (accepted_step rs (monitor_of_row rs row) z) (chart_step rs row z)

  valid : valid_state (length row) rs (state_of_row rs row) ≡ true
  valid = valid_of_row rs bounds row e

  no_zone : zone_count ≤ z → Agrees
  no_zone h = rw (step_bad_zone rs (monitor_of_row rs row) z h, chart_bad_zone rs row z h) record { answer = refl; after = refl; quiet_row = e }

  module _ (zone : z < zone_count) where
    full : max_number ≤ length row → Agrees
    full q = rw (step_bad_count rs (monitor_of_row rs row) z zone valid q, chart_bad_count rs row z zone q) record { answer = refl; after = refl; quiet_row = e }

    silent : length row < max_number → row_mask rs (z ∷ row) ≡ 0 → Agrees
    silent q n =
        rw (step_quiet rs (monitor_of_row rs row) z zone valid q (mask_of_row rs bounds row z ∙ n), chart_quiet rs row z zone q n)
        record { answer = ap quiet (add-one (length row)); after = rw (next_of_row rs bounds row z, add-one (length row)); quiet_row = n }

    loud : length row < max_number → (row_mask rs (z ∷ row) ≡ 0 → ⊥) → Agrees
    loud q n =
        rw (step_signal rs (monitor_of_row rs row) z zone valid q (λ y. n (sym (mask_of_row rs bounds row z) ∙ y)), chart_signal rs row z zone q n)
        record { answer = rw (mask_of_row rs bounds row z, add-one (length row)); after = fresh_of_row rs; quiet_row = empty_row_mask rs bounds }

    taken : length row < max_number → Agrees
    taken q =
        ⊎_elim (λ (n : row_mask rs (z ∷ row) ≡ 0). silent q n) (λ (n : 0 < row_mask rs (z ∷ row)). loud q (λ y. omega arith))
        (eq-zero-or-pos (row_mask rs (z ∷ row)))

  pub one_call : Agrees
  one_call =
      ⊎_elim no_zone
      (λ (zone : z < zone_count). ⊎_elim (λ (q : max_number ≤ length row). full zone q) (λ (q : length row < max_number). taken zone q) (le_or_lt max_number (length row)))
      (le_or_lt zone_count z)
