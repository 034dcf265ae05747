-- `take_readings` meets its contract: the check's refusal, and else the batch with all of that settled.
use Rattle.std.proofs.Common.{sym, ◌∙◌}
use Rattle.monitor.proofs.ReadingLaws.{reading_accepted}
use Rattle.batch.proofs.BatchLaws.{batch_refused, batch_taken}
use Rattle.batch.proofs.take_readings.Goals as goal

pub returns-in-Err : goal.returns-in-Err
returns-in-Err c =
    let s = c.args in
    c.none_taken.ensures
    ∙ sym (batch_refused s.list s.monitor s.chart.centre s.chart.sigma s.readings.now _ (sym c.check.ensures ∙ c.in-Err.is))

pub take_accepted-requires : goal.take_accepted-requires
take_accepted-requires c =
    let s = c.args in (reading_accepted s.list s.monitor s.chart.sigma (sym c.check.ensures ∙ c.in-Ok.is)).0

pub returns-in-Ok : goal.returns-in-Ok
returns-in-Ok c =
    let s = c.args in
    let r = reading_accepted s.list s.monitor s.chart.sigma (sym c.check.ensures ∙ c.in-Ok.is) in
    c.take_accepted.ensures
    ∙ sym (batch_taken s.list s.monitor s.chart.centre s.chart.sigma s.readings.now r.0 r.1)
