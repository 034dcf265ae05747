-- A monitor whose calls are all taken answers as the plain chart that refuses none. Laws.
use Rattle.std.specs.Prelude.{◌≡◌, refl, Bool, true, false, List, [], ◌∷◌, ℕ, ◌≤◌, ltb, length, Ok}
use Rattle.std.proofs.Common.{ap, ◌∙◌}
use Rattle.rules.specs.declared.Rule.{Rule}
use Rattle.rules.specs.declared.RuleList.{RuleList}
use Rattle.rules.specs.Bounds.{zone_count, max_number}
use Rattle.rules.specs.Check.{active_rules, check_of}
use Rattle.monitor.specs.Step.{fresh_monitor}
use Rattle.window.specs.ReferenceChart.{row_mask, chart_by, chart_step, chart_answers}
use Rattle.monitor.specs.Calls.{monitor_answers, Said, EachAnswer}
use Rattle.runlength.specs.Sequence.{AllBelow}
use Rattle.monitor.proofs.AgreementLaws.{monitor_agrees, no_refused_call}
use Rattle.claims.specs.Exact.{free_answers}

-- a call that is taken is answered as the chart that refuses none does
taken_free : (rs : List Rule) (row : List ℕ) (z : ℕ) → Said (chart_step rs row z).answer
    → chart_step rs row z ≡ chart_by (row_mask rs (z ∷ row)) (z ∷ row)
unfolding chart_step
taken_free rs row z = each (ltb z zone_count) (ltb (length row) max_number) refl refl
  where
    each : (b c : Bool) → ltb z zone_count ≡ b → ltb (length row) max_number ≡ c → Said (chart_step rs row z).answer
        → chart_step rs row z ≡ chart_by (row_mask rs (z ∷ row)) (z ∷ row)
    each true true d e h = rw (d, e)
    each true false d e h = absurd (rw (d, e) at h)
    each false c d e h = absurd (rw d at h)

-- where no call is refused, the plain chart answers as the one that refuses none
pub unrefused_free : (rs : List Rule) (zs row : List ℕ) → EachAnswer Said (chart_answers rs row zs)
    → chart_answers rs row zs ≡ free_answers rs row zs
unfolding chart_answers free_answers EachAnswer
unrefused_free rs [] row h = refl
unrefused_free rs (z ∷ zs) row h =
    let t = taken_free rs row z h.0 in
    let r = unrefused_free rs zs (chart_step rs row z).row h.1 in
    rw (← t) (ap (λ rest. (chart_step rs row z).answer ∷ rest) r)

-- a list of at most 2^32 - 1 calls whose zones all exist is answered by the monitor as by the chart that refuses none
pub monitor_free : (l : RuleList) → check_of l ≡ Ok tt → (zs : List ℕ) → AllBelow zone_count zs → length zs ≤ max_number
    → monitor_answers l fresh_monitor zs ≡ free_answers (active_rules l) [] zs
monitor_free l a zs i h =
    let u : EachAnswer Said (chart_answers (active_rules l) [] zs) = rw (monitor_agrees l a zs) at (no_refused_call l a zs i h) in
    monitor_agrees l a zs ∙ unrefused_free (active_rules l) zs [] u
