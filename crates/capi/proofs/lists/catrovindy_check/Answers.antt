-- `capi::catrovindy_check` meets its contract: by the check's answer.
use Rattle.std.proofs.Common.{sym, ap, ◌∙◌}
use Rattle.rules.specs.Check.{check_of}
use Rattle.codes.specs.Codes.{check_code}
use Rattle.capi.proofs.lists.catrovindy_check.Goals as goal

pub returns-in-Ok : goal.returns-in-Ok
returns-in-Ok c = sym (ap check_code (ap check_of (sym c.list_of.ensures) ∙ sym c.check.ensures ∙ c.in-Ok.is))

pub returns-in-Err : goal.returns-in-Err
returns-in-Err c =
    c.code.ensures ∙ sym (ap check_code (ap check_of (sym c.list_of.ensures) ∙ sym c.check.ensures ∙ c.in-Err.is))
