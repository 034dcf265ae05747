-- `check::check_chain` meets its contract: the rule list's refusal, or the checks of a chain whose rules are accepted.
use Rattle.std.proofs.Common.{rules, ◌≡◌, sym, ◌∙◌, Err}
use Rattle.table.proofs.ChainCheckLaws.{bad_rules}
use Rattle.table.proofs.check.check_chain.Goals as goal

pub returns-in_err-check-clause-checked : goal.returns-in_err-check-clause-checked
returns-in_err-check-clause-checked c =
    let a = c.args in
    let r : c.from_residual.result ≡ Err c.in_err-check.field-0.0 = search rules in
    rw r (bad_rules a.list a.weights a.horizon (sym c.check.ensures ∙ c.in_err-check.was))
