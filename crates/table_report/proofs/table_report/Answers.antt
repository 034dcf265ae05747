-- `table_report::table_report` meets its contract: the text's refusal, the table's, or the table's lines.
use Rattle.std.proofs.Common.{rules, ◌≡◌, sym, ◌∙◌, Err}
use Rattle.table.specs.Table.{table_call}
use Rattle.table_report.specs.TableReport.{blank}
use Rattle.table_report.specs.TableReportLaws.{rows_total, text_refused, table_refused, table_written}
use Rattle.table_report.proofs.table_report.Goals as goal

pub returns-in_err-read : goal.returns-in_err-read
returns-in_err-read c =
    let a = c.args in
    let r : c.from_residual.result ≡ Err c.in_err-read.field-0.0 = search rules in
    rw r (text_refused a.text.now a.out.now _ (sym c.table_text.ensures ∙ c.in_err-read.was))

pub returns-in-Err : goal.returns-in-Err
unfolding blank
returns-in-Err c =
    let a = c.args in
    table_refused a.text.now a.out.now (sym c.table_text.ensures ∙ c.in_ok-read.was)
    c.report_horizon-horizon.result c.report_horizon-horizon.ensures c.table_summary.result _ _ c.table_summary.ensures _ c.in-Err.is

pub put_table-requires-clause-horizon_bound : goal.put_table-requires-clause-horizon_bound
unfolding blank
put_table-requires-clause-horizon_bound c =
    let t = c.in_ok-read.read in
    rows_total (table_call t.list t.weights c.report_horizon-horizon.result blank blank) c.table_summary.ensures c.in-Ok.is

pub returns-in-Ok : goal.returns-in-Ok
unfolding blank
returns-in-Ok c =
    let a = c.args in
    table_written a.text.now a.out.now (sym c.table_text.ensures ∙ c.in_ok-read.was)
    c.report_horizon-horizon.result c.report_horizon-horizon.ensures c.table_summary.result _ _ c.table_summary.ensures _ c.in-Ok.is
    _ _ c.put_table.ensures.wrote
