-- `rows::run_rows` meets its contract: after k rows the lists, the last survival and the mean are the table's to row k.
use native.Mathlib.Omega.{arith}
use Rattle.sources.specs.ListSourcesLaws.{lent_listed}
use Rattle.rows.specs.RunningLaws.{run_start, run_point, run_more}
use Rattle.rows.proofs.rows.run_rows.Goals as goal

pub loop-k-init : goal.loop-k-init
loop-k-init c = record { room = omega (arith, c.split_at_mut-now.ensures.back_len); running = run_start c.requires c.split_at_mut-now.ensures.front }

pub next_point-point-requires : goal.next_point-point-requires
next_point-point-requires c =
    let v = c.loop-k.invariant in
    run_point c.requires v.running (lent_listed c.list_sources.ensures c.lend-lent.ensures) v.room

pub loop-k-preserved : goal.loop-k-preserved
loop-k-preserved c =
    let v = c.loop-k.invariant in
    record {
      room = v.running.same;
      running = run_more c.requires v.running (lent_listed c.list_sources.ensures c.lend-lent.ensures) c.next_point-point.ensures c.loop-k-test.true v.room c.after-totals.ensures;
    }
