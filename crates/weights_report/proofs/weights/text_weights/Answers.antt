-- `text_weights` meets its contract: the text's refusal, or what its shift gives.
use mir.Syntax.{w32}
use mir.Val.{to_z, of_z}
use Rattle.std.proofs.Common.{rules, ◌≡◌, sym, ap, ◌∙◌, Err}
use Rattle.shift.specs.Shift.{shift_of}
use Rattle.weights_report.specs.WeightsReport.{weights_for, text_weights}
use Rattle.weights_report.proofs.weights.text_weights.Goals as goal

pub returns-in_err-shift_text : goal.returns-in_err-shift_text
unfolding text_weights
returns-in_err-shift_text c =
    let err : c.from_residual.result ≡ Err c.in_err-shift_text.field-0.0 = search rules in
    err ∙ ap weights_for (sym c.in_err-shift_text.was ∙ c.shift_text.ensures)

pub returns : goal.returns
unfolding text_weights
returns c =
    let fits : to_z w32 (of_z w32 c.in_ok-shift_text.field-0) ≡ c.in_ok-shift_text.field-0 = search rules in
    c.shift_weights.ensures ∙ ap shift_of fits ∙ ap weights_for (sym c.in_ok-shift_text.was ∙ c.shift_text.ensures)
