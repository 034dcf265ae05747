-- `plot::box_plot` meets its contract: the table's refusal, or the record of the summary.
use Rattle.std.proofs.Common.{rules, ◌≡◌, Err}
use Rattle.table.specs.Table.{table_call}
use Rattle.plot.specs.PlotLaws.{refused_plot, left_plottable, accepted_plot}
use Rattle.plot.proofs.box_plot.Goals as goal

pub returns-in_err-summary : goal.returns-in_err-summary
returns-in_err-summary c =
    let a = c.args in
    let r : c.from_residual.result ≡ Err c.in_err-summary.field-0.0 = search rules in
    rw r (refused_plot (table_call a.list a.weights a.horizon a.pmf.now a.survival.now) c.table_summary.ensures c.in_err-summary.was)

pub plot_record-requires : goal.plot_record-requires
plot_record-requires c =
    let a = c.args in
    left_plottable (table_call a.list a.weights a.horizon a.pmf.now a.survival.now) c.table_summary.ensures c.in_ok-summary.was

pub returns : goal.returns
returns c =
    let a = c.args in
    accepted_plot (table_call a.list a.weights a.horizon a.pmf.now a.survival.now) c.table_summary.ensures c.in_ok-summary.was c.plot_record.ensures
