-- `Monitor::accepted_step` meets its contract: a case of the step for each return.
use Rattle.std.proofs.Common.{sym, ap, ◌∙◌, ◌+◌, arith, Ok}
use Rattle.rules.specs.Check.{active_rules}
use Rattle.monitor.proofs.StepLaws.{step_bad_zone, step_bad_state, step_bad_count, step_take}
use Rattle.monitor.specs.Take.{step_taken}
use Rattle.monitor.proofs.Monitor.accepted_step.Goals as goal

pub returns-then-zone : goal.returns-then-zone
returns-then-zone c = let a = c.args in sym (step_bad_zone (active_rules a.list) a.self a.zone (omega arith))

pub returns-then-not-valid : goal.returns-then-not-valid
returns-then-not-valid c = let a = c.args in sym (step_bad_state (active_rules a.list) a.self a.zone (omega arith) (sym c.if-not-valid.ensures))

pub returns-then-self-ge-MAX_NUMBER : goal.returns-then-self-ge-MAX_NUMBER
returns-then-self-ge-MAX_NUMBER c =
    let a = c.args in
    sym (step_bad_count (active_rules a.list) a.self a.zone (omega arith) (sym c.if-not-valid.ensures) (omega arith))

pub returns-in-Quiet : goal.returns-in-Quiet
returns-in-Quiet c =
    let a = c.args in
    sym (
    step_take (active_rules a.list) a.self a.zone (omega arith) (sym c.if-not-valid.ensures) (omega arith)
    ∙ ap (λ t. Ok (step_taken (a.self.count + 1) t)) (sym c.take.ensures ∙ c.in-Quiet.is))

pub returns-in-Signal : goal.returns-in-Signal
returns-in-Signal c =
    let a = c.args in
    rw c.fresh.ensures
    (sym (
    step_take (active_rules a.list) a.self a.zone (omega arith) (sym c.if-not-valid.ensures) (omega arith)
    ∙ ap (λ t. Ok (step_taken (a.self.count + 1) t)) (sym c.take.ensures ∙ c.in-Signal.is)))
