-- `take_accepted` meets its contract. The invariant: what the readings left give is what the whole gives.
use Rattle.std.proofs.Common.{◌≡◌, sym, ap, ◌∙◌, List, ℕ, arith, ℤ, pos, ◌-ℤ◌}
use lib.ListN.{get_or}
use mir.Syntax.{w32}
use mir.Val.{SFits, to_z, of_z}
use mir.Facts.{to_z-of_z}
use Rattle.rules.specs.declared.RuleList.{RuleList}
use Rattle.rules.specs.Check.{active_rules}
use Rattle.rules.proofs.CheckLaws.{accepted}
use Rattle.monitor.specs.declared.Monitor.{Monitor}
use Rattle.monitor.specs.declared.Taken.{Taken}
use Rattle.monitor.specs.Reading.{point_at}
use Rattle.monitor.specs.Take.{taken_of}
use Rattle.monitor.specs.Zone.{zone_at}
use Rattle.monitor.specs.ZoneLaws.{zone_exists}
use Rattle.batch.specs.Batch.{Left}
use borrow.Author.Rules.{rules}
use Rattle.batch.proofs.BatchLaws.{left_end, left_full, left_signal, left_quiet}
use Rattle.batch.proofs.take_accepted.Goals as goal

-- the point that the loop's body takes: the reading comes out of the slice as it stands there
module _ {l : RuleList} {start : Monitor} {centre : ℤ} {sigma : ℕ} {xs : List ℤ} {m : Monitor} {i : ℕ}
    (left : Left l start centre sigma xs m i) {z : ℕ} {t : Taken} where
  point_read : SFits w32 (get_or xs i (pos 0)) → z ≡ zone_at (to_z w32 (of_z w32 (get_or xs i (pos 0))) -ℤ centre) sigma
      → t ≡ taken_of (active_rules l) m z → t ≡ point_at l m centre sigma (get_or xs i (pos 0))
  point_read f ez et = et ∙ ap (taken_of (active_rules l) m) (ez ∙ ap (λ (y : ℤ). zone_at (y -ℤ centre) sigma) (to_z-of_z f))

pub returns-then-points-ge-MAX_NUMBER : goal.returns-then-points-ge-MAX_NUMBER
returns-then-points-ge-MAX_NUMBER c =
    sym (left_full c.loop-i.invariant c.loop-i-test.true (omega arith))

pub take-requires-clause-len_le_max_rules : goal.take-requires-clause-len_le_max_rules
take-requires-clause-len_le_max_rules c =
    let s = c.args in
    let x = get_or s.readings.now c.loop-i.i (pos 0) in
    let offset = to_z w32 (of_z w32 x) -ℤ s.chart.centre in
    let p = accepted s.list c.requires.rules in
    (p.1, p.2, omega (arith, c.zone_at.ensures, zone_exists offset s.chart.sigma), omega arith)

pub returns-in-Signal : goal.returns-in-Signal
returns-in-Signal c =
    let v = c.loop-i.invariant in
    let point = point_read v (record { sfits = search rules }) c.zone_at.ensures
    (sym c.in-Signal.is ∙ c.take.ensures) in
    rw c.fresh.ensures (sym (left_signal v c.loop-i-test.true (omega arith) point))

pub loop-i-preserved : goal.loop-i-preserved
loop-i-preserved c =
    let v = c.loop-i.invariant in
    let point = point_read v (record { sfits = search rules }) c.zone_at.ensures
    (sym c.in-Quiet.is ∙ c.take.ensures) in
    left_quiet v c.loop-i-test.true (omega arith) point

pub returns : goal.returns
returns c = sym (left_end c.loop-i.invariant (omega arith))
