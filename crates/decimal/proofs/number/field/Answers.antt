-- `text::field` meets its contract: a comma, then the number.
use borrow.Author.Rules.{rules}
use mathlib.Core.Path.{◌≡◌, sym, ◌∙◌}
use Rattle.std.specs.Prelude.{None}
use Rattle.decimal.specs.Number.{field_at}
use Rattle.decimal.specs.OnLaws.{found, absent}
use Rattle.decimal.proofs.number.field.Goals as goal

pub returns-in_err-past : goal.returns-in_err-past
unfolding field_at
returns-in_err-past c =
    let r : c.from_residual.result ≡ None = search rules in
    r ∙ sym (absent _ _ (sym c.past.ensures ∙ c.in_err-past.was))

pub returns : goal.returns
unfolding field_at
returns c =
    c.number_at.ensures ∙ sym (found _ _ (sym c.past.ensures ∙ c.in_ok-past.was))
