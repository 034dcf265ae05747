-- `text::number_at` meets its contract: the definition's tests, one for each return.
use mathlib.Core.Path.{sym, ◌∙◌}
use Rattle.decimal.proofs.Digit.{number_low, number_high, number_zero, number_some}
use Rattle.decimal.proofs.number.number_at.Goals as goal

pub returns-then-b-lt48 : goal.returns-then-b-lt48
returns-then-b-lt48 c = sym (number_low _ _ _ c.byte_at-b.ensures.is c.if-b-lt48.true)

pub returns-then-b-gt57 : goal.returns-then-b-gt57
returns-then-b-gt57 c = sym (number_high _ _ _ c.byte_at-b.ensures.is c.if-b-gt57.true)

pub returns-then-b-eq48 : goal.returns-then-b-eq48
returns-then-b-eq48 c = sym (number_zero _ _ _ c.byte_at-b.ensures.is c.if-b-eq48.true)

pub returns : goal.returns
returns c =
    c.digits.ensures ∙ sym
    (number_some _ _ _ c.byte_at-b.ensures.is _ c.from.ensures c.if-b-lt48.false c.if-b-gt57.false c.if-b-eq48.false)
