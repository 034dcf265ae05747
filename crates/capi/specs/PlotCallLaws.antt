-- A call of the plot record, by the answer of the operation.
use Rattle.std.specs.Prelude.{ℕ, ◌≡◌, List, Float, Result}
use Rattle.std.proofs.Common.{sym, ap, ◌∙◌}
use Rattle.rules.specs.Check.{checked}
use Rattle.plot.specs.declared.PlotRecord.{PlotRecord}
use Rattle.rules.specs.declared.refusal.Refusal.{Refusal}
use Rattle.table.specs.Table.{TableCall}
use Rattle.plot.specs.Plot.{box_plot_of}
use Rattle.capi.specs.PlotCall.{kinds_after, values_after, PlotCalled}
use Rattle.codes.specs.Codes.{check_code}
use Rattle.table.specs.Table.{CallResult, call_result}

-- a is the record's answer, which is b
pub plot_call : (t : TableCall) (k : List ℕ) (v : List Float) (p' s' k' : List ℕ) (v' : List Float) (r : ℕ) (a b : Result PlotRecord Refusal)
    → call_result a p' s' ≡ box_plot_of t → a ≡ b → r ≡ check_code (checked b) → k' ≡ kinds_after b k → v' ≡ values_after b v
    → PlotCalled t k v p' s' k' v' r
plot_call t k v p' s' k' v' r a b called q code kinds values =
    let is : (box_plot_of t).answer ≡ b = sym (ap (λ (y : CallResult (Result PlotRecord Refusal)). y.answer) called) ∙ q in
    record {
      code = code ∙ sym (ap (λ (y : Result PlotRecord Refusal). check_code (checked y)) is);
      pmf_list_lem = ap (λ (y : CallResult (Result PlotRecord Refusal)). y.pmf_list) called;
      survival_list_lem = ap (λ (y : CallResult (Result PlotRecord Refusal)). y.survival_list) called;
      kinds = kinds ∙ sym (ap (λ (y : Result PlotRecord Refusal). kinds_after y k) is);
      values = values ∙ sym (ap (λ (y : Result PlotRecord Refusal). values_after y v) is);
    }
