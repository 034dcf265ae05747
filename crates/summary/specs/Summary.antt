-- TO BELIEVE: the summary of a table: what the operation answers, and what the two lent lists then hold. Definitions.
use Rattle.std.specs.Prelude.{ℕ, List, take, Err, Ok, Result}
use Rattle.rules.specs.declared.refusal.Refusal.{Refusal}
use Rattle.runlength.specs.Chain.{error_bound_of}
use Rattle.table.specs.declared.TableFigures.{TableFigures}
use Rattle.table.specs.Table.{TableCall, table_of}
use Rattle.bracket.specs.Bracket.{percentile_bracket}
use Rattle.summary.specs.declared.Summary.{Summary}
use Rattle.table.specs.Table.{CallResult, call_result}

-- the table's figures, the error bound of its mean, and the brackets of five percentiles, by its chances and its number of states
unfoldable pub summary_by : List ℕ → TableFigures → ℕ → Summary
summary_by pmf f h = record {
  figures = f;
  error_bound = error_bound_of f.state_count h;
  p5 = percentile_bracket pmf f.state_count 5;
  p25 = percentile_bracket pmf f.state_count 25;
  p50 = percentile_bracket pmf f.state_count 50;
  p75 = percentile_bracket pmf f.state_count 75;
  p95 = percentile_bracket pmf f.state_count 95;
}

-- by the table's answer and the list of chances that it leaves, of which the first h count; refused as the table is
unfoldable pub summarized : Result TableFigures Refusal → ℕ → List ℕ → Result Summary Refusal
summarized (Ok f) h p = Ok (summary_by (take h p) f h)
summarized (Err x) h p = Err x

-- by the table's result, whose lists it leaves
abbrev pub summary_after : ℕ → CallResult (Result TableFigures Refusal) → CallResult (Result Summary Refusal)
summary_after h r = call_result (summarized r.answer h r.pmf_list) r.pmf_list r.survival_list

unfoldable pub summary_of : TableCall → CallResult (Result Summary Refusal)
summary_of t = summary_after t.horizon (table_of t)
