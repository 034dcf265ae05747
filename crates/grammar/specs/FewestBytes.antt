-- The fewest bytes of a line: of its values, of a kind and of a form. Working definitions.
use Rattle.std.specs.Prelude.{ℕ, ◌+◌, ◌*◌, cond, List, length, leb}
use Rattle.grammar.specs.LineValues.{Field}
use Rattle.grammar.specs.Form.{Kind, named, Form, line, either}

-- the fewest bytes of values: two a field, and LF
abbrev pub least_values : List Field → ℕ
least_values fs = 2 * length fs + 1

-- the fewest bytes of a line
abbrev pub least_of : Kind → ℕ
least_of (named w fs) = length w + least_values fs

-- the fewest bytes of a line of the form
unfoldable pub least : Form → ℕ
least (line k) = least_of k
least (either f g) = cond (leb (least f) (least g)) (least f) (least g)
