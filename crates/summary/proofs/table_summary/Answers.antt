-- `summary::table_summary` meets its contract: the table's refusal, or the summary of the table that it left.
use Rattle.std.proofs.Common.{rules, ◌≡◌, sym, Err}
use Rattle.table.specs.Table.{table_call}
use Rattle.summary.proofs.SummaryLaws.{refused_summary, left_room, left_summarizable, accepted_run}
use lib.Seq.{length-take-le}
use Rattle.summary.proofs.table_summary.Goals as goal

pub returns-in_err-figures : goal.returns-in_err-figures
returns-in_err-figures c =
    let a = c.args in
    let r : c.from_residual.result ≡ Err c.in_err-figures.field-0.0 = search rules in
    rw r (refused_summary (table_call a.list a.weights a.horizon a.pmf.now a.survival.now) c.run_length_table.ensures c.in_err-figures.was)

pub slice_bounds-summarize-end : goal.slice_bounds-summarize-end
slice_bounds-summarize-end c =
    let a = c.args in
    left_room (table_call a.list a.weights a.horizon a.pmf.now a.survival.now) c.run_length_table.ensures c.in_ok-figures.was

pub slice_bounds-summarize-end-2 : goal.slice_bounds-summarize-end-2
slice_bounds-summarize-end-2 c =
    let a = c.args in
    sym (length-take-le a.horizon _ (left_room (table_call a.list a.weights a.horizon a.pmf.now a.survival.now) c.run_length_table.ensures c.in_ok-figures.was))

pub summarize-requires : goal.summarize-requires
summarize-requires c =
    let a = c.args in
    left_summarizable (table_call a.list a.weights a.horizon a.pmf.now a.survival.now) c.run_length_table.ensures c.in_ok-figures.was

pub returns : goal.returns
returns c =
    let a = c.args in
    accepted_run (table_call a.list a.weights a.horizon a.pmf.now a.survival.now) c.run_length_table.ensures c.in_ok-figures.was c.summarize.ensures
