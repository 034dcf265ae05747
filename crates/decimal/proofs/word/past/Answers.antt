-- `past` meets its contract: what stands from the offset on begins with the word, or does not.
use Rattle.std.specs.Prelude.{refl}
use Rattle.decimal.proofs.Starts.{past_by}
use Rattle.decimal.proofs.word.past.Goals as goal

pub returns-then-starts_with : goal.returns-then-starts_with
returns-then-starts_with c =
    let s = c.args in past_by s.text.now s.word.now s.at c.get.result _ refl c.get.ensures.lookup.0 c.unwrap_or-rest.ensures c.if-starts_with.ensures.value

pub returns-else-starts_with : goal.returns-else-starts_with
returns-else-starts_with c =
    let s = c.args in past_by s.text.now s.word.now s.at c.get.result _ refl c.get.ensures.lookup.0 c.unwrap_or-rest.ensures c.if-starts_with.ensures.value
