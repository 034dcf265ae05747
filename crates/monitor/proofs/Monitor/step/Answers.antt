-- `Monitor::step` meets its contract: the check's refusal, or a step with accepted rules.
use Rattle.std.proofs.Common.{rules, ℕ, ◌≡◌, sym, ◌∙◌, Err}
use Rattle.rules.specs.declared.RuleList.{RuleList}
use Rattle.rules.specs.declared.refusal.Refusal.{Refusal}
use Rattle.rules.specs.Check.{check_of}
use Rattle.rules.proofs.CheckLaws.{accepted}
use Rattle.monitor.specs.declared.Monitor.{Monitor}
use Rattle.monitor.specs.Step.{step_of}
use Rattle.monitor.proofs.StepLaws.{rules_accepted}
use Rattle.monitor.proofs.Monitor.step.Goals as goal

rules_refused : (l : RuleList) (m : Monitor) (z : ℕ) (x : Refusal) → check_of l ≡ Err x → Err x ≡ step_of l m z
unfolding step_of
rules_refused l m z x e = rw e

pub accepted_step-requires : goal.accepted_step-requires
accepted_step-requires c = let p = accepted c.args.list (sym c.check.ensures ∙ c.in_ok-check.was) in (p.1, p.2)

pub returns-in_err-check : goal.returns-in_err-check
returns-in_err-check c =
    let r : c.from_residual.result ≡ Err c.in_err-check.field-0.0 = search rules in
    let a = c.args in
    r ∙ rules_refused a.list a.self a.zone c.in_err-check.field-0.0 (sym c.check.ensures ∙ c.in_err-check.was)

pub returns : goal.returns
returns c =
    let a = c.args in
    c.accepted_step.ensures ∙ sym (rules_accepted a.list (sym c.check.ensures ∙ c.in_ok-check.was) a.self a.zone)
