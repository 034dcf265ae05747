-- `capi::catrovindy_bracket` meets its contract: the bracket's refusal, or its bracket.
use mathlib.Core.Path.{refl}
use Rattle.capi.specs.BracketCallLaws.{bracket_call}
use Rattle.capi.proofs.brackets.catrovindy_bracket.Goals as goal

pub returns-in-Err : goal.returns-in-Err
returns-in-Err c =
    let a = c.args in
    bracket_call a.pmf.now a.state_count a.percent a.answer.now _ _ c.percentile_bracket.result _
    c.percentile_bracket.ensures c.in-Err.is c.code.ensures refl

pub returns-in-Ok : goal.returns-in-Ok
returns-in-Ok c =
    let a = c.args in
    bracket_call a.pmf.now a.state_count a.percent a.answer.now _ _ c.percentile_bracket.result _
    c.percentile_bracket.ensures c.in-Ok.is refl c.write_bracket.ensures
