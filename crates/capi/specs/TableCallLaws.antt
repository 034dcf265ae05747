-- A call of the table, by the answer of the operation.
use Rattle.std.specs.Prelude.{◌≡◌, List, ℕ, set, Err, Ok, Result}
use Rattle.std.proofs.Common.{sym, ap, ◌∙◌}
use Rattle.rules.specs.Check.{checked}
use Rattle.rules.specs.declared.refusal.Refusal.{Refusal}
use Rattle.table.specs.declared.TableFigures.{TableFigures}
use Rattle.table.specs.Table.{TableCall, table_of}
use Rattle.codes.specs.Codes.{code_of}
use Rattle.capi.specs.TableCall.{figures_after, TableCalled}
use Rattle.codes.specs.Codes.{check_code}
use Rattle.table.specs.Table.{CallResult, call_result}

-- a is the table's answer
module _ (t : TableCall) (f : List ℕ) {p' s' : List ℕ} {a : Result TableFigures Refusal} (called : call_result a p' s' ≡ table_of t) where
  pub call_refused : {x : Refusal} (r : ℕ) → a ≡ Err x → r ≡ code_of x → TableCalled t f p' s' f r
  call_refused {x} r e q =
      let is : (table_of t).answer ≡ Err x = sym (ap (λ (y : CallResult (Result TableFigures Refusal)). y.answer) called) ∙ e in
      record {
        code = q ∙ sym (ap (λ (y : Result TableFigures Refusal). check_code (checked y)) is);
        pmf_list_lem = ap (λ (y : CallResult (Result TableFigures Refusal)). y.pmf_list) called;
        survival_list_lem = ap (λ (y : CallResult (Result TableFigures Refusal)). y.survival_list) called;
        figures = sym (ap (λ (y : Result TableFigures Refusal). figures_after y f) is);
      }

  pub call_accepted : {g : TableFigures} → a ≡ Ok g
      → TableCalled t f p' s' (set (set (set (set f 0 g.state_count) 1 g.survival) 2 g.mean_whole) 3 g.mean_fraction) 0
  call_accepted {g} e =
      let is : (table_of t).answer ≡ Ok g = sym (ap (λ (y : CallResult (Result TableFigures Refusal)). y.answer) called) ∙ e in
      record {
        code = sym (ap (λ (y : Result TableFigures Refusal). check_code (checked y)) is);
        pmf_list_lem = ap (λ (y : CallResult (Result TableFigures Refusal)). y.pmf_list) called;
        survival_list_lem = ap (λ (y : CallResult (Result TableFigures Refusal)). y.survival_list) called;
        figures = sym (ap (λ (y : Result TableFigures Refusal). figures_after y f) is);
      }
