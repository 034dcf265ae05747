-- `table::run_length_table` meets its contract: the chart's refusal, 11, or the rows of the chain's moves.
use Rattle.std.proofs.Common.{rules, arith, ◌≡◌, sym, ◌∙◌, Err}
use Rattle.rules.specs.Check.{active_rules}
use Rattle.table.specs.Table.{table_call}
use Rattle.table.proofs.ChainCheckLaws.{accepted_chain}
use Rattle.table.proofs.TableLaws.{chain_refused, short_pmf, short_survival, all_passed, rows_filled}
use Rattle.chain.specs.TableChainLaws.{count_some}
use Rattle.table.proofs.run_length_table.Goals as goal

pub returns-in_err-n : goal.returns-in_err-n
returns-in_err-n c =
    let a = c.args in
    let r : c.from_residual.result ≡ Err c.in_err-n.field-0.0 = search rules in
    rw r (chain_refused (table_call a.list a.weights a.horizon a.pmf.now a.survival.now) c.in_err-n.ensures.checked)

pub returns-then-pmf-h : goal.returns-then-pmf-h
returns-then-pmf-h c =
    let a = c.args in
    short_pmf (table_call a.list a.weights a.horizon a.pmf.now a.survival.now) c.in_ok-n.ensures.checked.0 (omega arith)

pub returns-then-survival-h : goal.returns-then-survival-h
returns-then-survival-h c =
    let a = c.args in
    short_survival (table_call a.list a.weights a.horizon a.pmf.now a.survival.now) c.in_ok-n.ensures.checked.0 (omega arith) (omega arith)

pub run_rows-totals-requires : goal.run_rows-totals-requires
run_rows-totals-requires c =
    let a = c.args in
    let chart = accepted_chain a.list a.weights a.horizon c.in_ok-n.ensures.checked.0 in
    let m = c.in_ok-n.ensures.checked.1 in
    record {
      some = omega (arith, m.count, count_some (active_rules a.list));
      moves = record { many = m.room; most = m.few };
      weights = record { zones = search rules; total = chart.weights };
      rows = chart.most_horizon;
      pmf_room = omega arith;
      survival_room = omega arith;
    }

pub returns : goal.returns
returns c =
    let a = c.args in
    let t = table_call a.list a.weights a.horizon a.pmf.now a.survival.now in
    rows_filled t c.in_ok-n.ensures.checked.1 c.run_rows-totals.ensures
    ∙ sym (all_passed t c.in_ok-n.ensures.checked.0 (omega arith) (omega arith))
