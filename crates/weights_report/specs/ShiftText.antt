-- TO BELIEVE: the kind of line of a shift text, and its grammar; below them what the weights program is given of its text. Definitions.
use Rattle.std.specs.Prelude.{ℕ, List, [], ◌∷◌, ℤ, Result, Ok, Err}
use Rattle.rules.specs.declared.refusal.Refusal.{Refusal}
use Rattle.rules.specs.Refusal.{bad_line, too_long}
use Rattle.grammar.specs.LineValues.{signed}
use Rattle.grammar.specs.Form.{Kind, named}
use Rattle.grammar.specs.Grammar.{Grammar, one, Contents}
use Rattle.grammar.specs.TextReading.{read_text}
use Rattle.grammar.specs.Read.{Reading, read, stopped, long}

-- `shift`, and a signed number
abbrev pub shift_word : List ℕ
shift_word = 115 ∷ 104 ∷ 105 ∷ 102 ∷ 116 ∷ []

abbrev pub shift_line : Kind
shift_line = named shift_word (signed ∷ [])

-- one shift line
abbrev pub shift_grammar : Grammar
shift_grammar = one shift_line ∷ []

abbrev pub shift_contents : ℤ → Contents shift_grammar
shift_contents x = ((x, tt), tt)

-- ---- by contract: what is read of a text; `shift_read`, `shift_exactly`, `shift_stopped` and `shift_too_long` say what it is

unfoldable pub shift_by : Reading (Contents shift_grammar) → Result ℤ Refusal
shift_by (read c) = Ok c.0.0
shift_by (stopped n) = Err (bad_line n)
shift_by long = Err too_long

unfoldable pub shift_text : List ℕ → Result ℤ Refusal
shift_text s = shift_by (read_text shift_grammar s)
