-- `parse_line` meets its contract: the word does not stand there, or what follows it is read.
use Rattle.std.proofs.Common.{rules, ◌≡◌, sym, ◌∙◌, None}
use Rattle.text.specs.LineRead.{fields_of}
use Rattle.text.specs.LineReadLaws.{line_word, line_no_word}
use Rattle.text.proofs.lines.parse_line.Goals as goal

pub returns-in_err-past : goal.returns-in_err-past
returns-in_err-past c =
    let t = c.args in
    let r : c.from_residual.result ≡ None = search rules in
    r ∙ sym (line_no_word t.word.now (fields_of t.letters.now) t.text.now t.at (sym c.past.ensures ∙ c.in_err-past.was))

pub returns : goal.returns
returns c =
    let t = c.args in
    c.fields_from.ensures ∙ line_word t.word.now (fields_of t.letters.now) t.text.now t.at _ (sym c.past.ensures ∙ c.in_ok-past.was)
