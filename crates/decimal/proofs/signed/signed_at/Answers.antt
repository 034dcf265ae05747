-- `text::signed_at` meets its contract: the definition's tests, one for each return.
use borrow.Author.Rules.{rules}
use native.Mathlib.Omega.{arith}
use mathlib.Core.Path.{◌≡◌, sym, ap, ◌∙◌}
use Rattle.std.specs.Prelude.{None}
use Rattle.decimal.proofs.Sign.{minus_none, minus_zero, minus_over, minus_some, plus_none, plus_over, plus_some}
use Rattle.decimal.specs.Signed.{raised_of}
use Rattle.decimal.proofs.signed.signed_at.Goals as goal

pub returns-in_err-n : goal.returns-in_err-n
returns-in_err-n c =
    let r : c.from_residual.result ≡ None = search rules in
    r ∙ sym (ap raised_of (minus_none _ _ _ c.byte_at.ensures.is c.if-byte_at-eq45.true (sym c.number_at.ensures ∙ c.in_err-n.was)))

pub returns-then-n-eq0 : goal.returns-then-n-eq0
returns-then-n-eq0 c = sym (ap raised_of (minus_zero _ _ _ c.byte_at.ensures.is c.if-byte_at-eq45.true _ _ (sym c.number_at.ensures ∙ c.in_ok-n.was) c.if-n-eq0.true))

pub returns-then-n-gt-RAISE : goal.returns-then-n-gt-RAISE
returns-then-n-gt-RAISE c = sym (ap raised_of (minus_over _ _ _ c.byte_at.ensures.is c.if-byte_at-eq45.true _ _ (sym c.number_at.ensures ∙ c.in_ok-n.was) c.if-n-eq0.false c.if-n-gt-RAISE.true))

pub returns-in_err-n-2 : goal.returns-in_err-n-2
returns-in_err-n-2 c =
    let r : c.from_residual-in_err-n-2.result ≡ None = search rules in
    r ∙ sym (ap raised_of (plus_none _ _ _ c.byte_at.ensures.is c.if-byte_at-eq45.false (sym c.number_at-else-byte_at-eq45.ensures ∙ c.in_err-n-2.was)))

pub returns-then-n-ge-RAISE : goal.returns-then-n-ge-RAISE
returns-then-n-ge-RAISE c = sym (ap raised_of (plus_over _ _ _ c.byte_at.ensures.is c.if-byte_at-eq45.false _ _ (sym c.number_at-else-byte_at-eq45.ensures ∙ c.in_ok-n-2.was) c.if-n-ge-RAISE.true))

pub returns-else-n-gt-RAISE : goal.returns-else-n-gt-RAISE
returns-else-n-gt-RAISE c =
    sym (minus_some _ _ _ c.byte_at.ensures.is c.if-byte_at-eq45.true _ _ (sym c.number_at.ensures ∙ c.in_ok-n.was) (omega arith) (omega arith))

pub returns-else-n-ge-RAISE : goal.returns-else-n-ge-RAISE
returns-else-n-ge-RAISE c =
    sym (plus_some _ _ _ c.byte_at.ensures.is c.if-byte_at-eq45.false _ _ (sym c.number_at-else-byte_at-eq45.ensures ∙ c.in_ok-n-2.was) (omega arith))
