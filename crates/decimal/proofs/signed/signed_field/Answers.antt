-- `text::signed_field` meets its contract: a comma, then the signed number.
use borrow.Author.Rules.{rules}
use mathlib.Core.Path.{◌≡◌, sym, ap, ◌∙◌}
use Rattle.std.specs.Prelude.{None}
use Rattle.decimal.specs.Signed.{raised_of, signed_field_at}
use Rattle.decimal.specs.OnLaws.{found, absent}
use Rattle.decimal.proofs.signed.signed_field.Goals as goal

pub returns-in_err-past : goal.returns-in_err-past
unfolding signed_field_at
returns-in_err-past c =
    let r : c.from_residual.result ≡ None = search rules in
    r ∙ sym (ap raised_of (absent _ _ (sym c.past.ensures ∙ c.in_err-past.was)))

pub returns : goal.returns
unfolding signed_field_at
returns c =
    c.signed_at.ensures ∙ sym (ap raised_of (found _ _ (sym c.past.ensures ∙ c.in_ok-past.was)))
