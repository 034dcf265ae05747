-- `fields_from` meets its contract. The invariant: what is left to read decides as the whole did.
use Rattle.std.proofs.Common.{rules, ◌≡◌, sym, ◌∙◌, None}
use lib.ListN.{length-set}
use Rattle.text.specs.LineReadLaws.{next_value, no_value, clean_more, line_ends, line_goes_on}
use Rattle.text.proofs.lines.fields_from.Goals as goal

pub returns-in_err-x : goal.returns-in_err-x
returns-in_err-x c =
    let r : c.from_residual.result ≡ None = search rules in
    r ∙ sym (no_value _ _ _ _ _ c.loop-i-test.true (sym c.value.ensures ∙ c.in_err-x.was)) ∙ c.loop-i.invariant.2

pub loop-i-preserved : goal.loop-i-preserved
loop-i-preserved c = (
  simp length-set c.loop-i.invariant.0,
  clean_more _ c.loop-i.invariant.1,
  sym (next_value _ _ _ _ _ c.loop-i-test.true _ _ (sym c.value.ensures ∙ c.in_ok-x.was) (search rules)) ∙ c.loop-i.invariant.2,
)

pub returns-in_err-next : goal.returns-in_err-next
returns-in_err-next c =
    let r : c.from_residual-in_err-next.result ≡ None = search rules in
    r ∙ sym (line_goes_on _ _ _ _ _ c.loop-i-test.false (sym c.past.ensures ∙ c.in_err-next.was)) ∙ c.loop-i.invariant.2

pub returns : goal.returns
returns c =
    let i = c.loop-i.invariant in
    sym (line_ends _ _ _ _ _ c.loop-i-test.false _ (sym c.past.ensures ∙ c.in_ok-next.was) i.0 i.1) ∙ i.2
