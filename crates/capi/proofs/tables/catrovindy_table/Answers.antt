-- `capi::catrovindy_table` meets its contract: the table's refusal, or its figures.
use mathlib.Core.Path.{ap, ◌∙◌}
use Rattle.rules.specs.declared.RuleList.{RuleList}
use Rattle.table.specs.Table.{table_call, table_of}
use Rattle.codes.specs.Codes.{slot_list}
use Rattle.capi.specs.TableCallLaws.{call_refused, call_accepted}
use Rattle.capi.proofs.tables.catrovindy_table.Goals as goal

pub returns-in-Err : goal.returns-in-Err
returns-in-Err c =
    let a = c.args in
    let called = c.run_length_table.ensures ∙ ap (λ (l : RuleList). table_of (table_call l a.weights.now a.horizon a.pmf.now a.survival.now)) c.list_of.ensures in
    call_refused (table_call (slot_list a.slots.now a.count) a.weights.now a.horizon a.pmf.now a.survival.now) a.figures.now called _ c.in-Err.is c.code.ensures

pub returns-in-Ok : goal.returns-in-Ok
returns-in-Ok c =
    let a = c.args in
    let called = c.run_length_table.ensures ∙ ap (λ (l : RuleList). table_of (table_call l a.weights.now a.horizon a.pmf.now a.survival.now)) c.list_of.ensures in
    call_accepted (table_call (slot_list a.slots.now a.count) a.weights.now a.horizon a.pmf.now a.survival.now) a.figures.now called c.in-Ok.is
