-- `capi::catrovindy_plot` meets its contract: the record's refusal, or its numbers.
use mathlib.Core.Path.{refl, ap, ◌∙◌}
use Rattle.rules.specs.declared.RuleList.{RuleList}
use Rattle.table.specs.Table.{table_call}
use Rattle.plot.specs.Plot.{box_plot_of}
use Rattle.codes.specs.Codes.{slot_list}
use Rattle.capi.specs.PlotCallLaws.{plot_call}
use Rattle.capi.proofs.plots.catrovindy_plot.Goals as goal

pub returns-in-Err : goal.returns-in-Err
returns-in-Err c =
    let a = c.args in
    let called = c.box_plot.ensures ∙ ap (λ (l : RuleList). box_plot_of (table_call l a.weights.now a.horizon a.pmf.now a.survival.now)) c.list_of.ensures in
    plot_call (table_call (slot_list a.slots.now a.count) a.weights.now a.horizon a.pmf.now a.survival.now) a.kinds.now a.values.now _ _ _ _ _
    c.box_plot.result _ called c.in-Err.is c.code.ensures refl refl

pub returns-in-Ok : goal.returns-in-Ok
returns-in-Ok c =
    let a = c.args in
    let called = c.box_plot.ensures ∙ ap (λ (l : RuleList). box_plot_of (table_call l a.weights.now a.horizon a.pmf.now a.survival.now)) c.list_of.ensures in
    plot_call (table_call (slot_list a.slots.now a.count) a.weights.now a.horizon a.pmf.now a.survival.now) a.kinds.now a.values.now _ _ _ _ _
    c.box_plot.result _ called c.in-Ok.is refl c.write_kinds.ensures c.write_values.ensures
