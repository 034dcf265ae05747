-- `text::digits` meets its contract. The invariant: what is read from here on is what was to be read from the start.
use native.Mathlib.Omega.{arith}
use mathlib.Core.Path.{sym, ap, ◌∙◌}
use Rattle.decimal.proofs.Digit.{stop_end, stop_low, stop_high, over, on}
use Rattle.decimal.specs.Number.{more}
use Rattle.decimal.proofs.number.digits.Goals as goal

pub returns-then-b-lt48 : goal.returns-then-b-lt48
returns-then-b-lt48 c = sym (stop_low _ _ _ c.loop-i-test.true c.if-b-lt48.true) ∙ c.loop-i.invariant.1

pub returns-then-b-gt57 : goal.returns-then-b-gt57
returns-then-b-gt57 c = sym (stop_high _ _ _ c.loop-i-test.true c.if-b-gt57.true) ∙ c.loop-i.invariant.1

pub returns-then-v-gt-LARGEST : goal.returns-then-v-gt-LARGEST
returns-then-v-gt-LARGEST c =
    let e = ap (more c.loop-i.v) c.from.ensures in
    sym (over _ _ _ c.loop-i-test.true c.if-b-lt48.false c.if-b-gt57.false (rw e at c.if-v-gt-LARGEST.true)) ∙ c.loop-i.invariant.1

pub loop-i-preserved : goal.loop-i-preserved
loop-i-preserved c =
    let e = ap (more c.loop-i.v) c.from.ensures in
    (omega arith, rw e (sym (on _ _ _ c.loop-i-test.true c.if-b-lt48.false c.if-b-gt57.false (rw e at c.if-v-gt-LARGEST.false)) ∙ c.loop-i.invariant.1))

pub returns : goal.returns
returns c = sym (stop_end _ _ _ c.loop-i-test.false) ∙ c.loop-i.invariant.1
