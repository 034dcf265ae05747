-- `weights_report` meets its contract: the refusal, or the weights' line.
use Rattle.std.proofs.Common.{rules, ℕ, ◌≡◌, sym, ap, ◌∙◌, Result, Err}
use Rattle.rules.specs.declared.refusal.Refusal.{Refusal}
use Rattle.write.specs.Printed.{report}
use Rattle.write.proofs.PrintedLaws.{as_refused, as_written}
use Rattle.weights_report.specs.WeightsReport.{weights_by, weights_printed}
use Rattle.weights_report.proofs.weights.weights_report.Goals as goal

pub returns-in_err-weights : goal.returns-in_err-weights
unfolding weights_printed
returns-in_err-weights c =
    let err : c.from_residual.result ≡ Err c.in_err-weights.field-0.0 = search rules in
    ap (λ (a : Result ℕ Refusal). report a c.args.out.now) err
    ∙ as_refused _ _ (ap weights_by (sym c.text_weights.ensures ∙ c.in_err-weights.was))

pub returns : goal.returns
unfolding weights_printed
returns c = as_written _ _ _ (ap weights_by (sym c.text_weights.ensures ∙ c.in_ok-weights.was)) c.put_weights.ensures.wrote
