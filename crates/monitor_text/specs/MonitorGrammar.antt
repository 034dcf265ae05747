-- TO BELIEVE: the kinds of line of a monitor text, its grammar, and what its lines say. Definitions.
use Rattle.std.specs.Prelude.{ℕ, List, [], ◌∷◌, ℤ}
use Rattle.rules.specs.declared.Rule.{Rule}
use Rattle.grammar.specs.LineValues.{number, signed}
use Rattle.grammar.specs.Form.{Kind, named, Says}
use Rattle.grammar.specs.Grammar.{Grammar, one, many, Contents}
use Rattle.rule_lines.specs.Rules.{rule_line, rule_values}
use Rattle.monitor_text.specs.Readings.{NodeReading, node_reading}

-- `chart`, the centre and sigma
abbrev pub chart_word : List ℕ
chart_word = 99 ∷ 104 ∷ 97 ∷ 114 ∷ 116 ∷ []

abbrev pub chart_line : Kind
chart_line = named chart_word (signed ∷ number ∷ [])

-- `point`, the node and the reading
abbrev pub point_word : List ℕ
point_word = 112 ∷ 111 ∷ 105 ∷ 110 ∷ 116 ∷ []

abbrev pub point_line : Kind
point_line = named point_word (number ∷ signed ∷ [])

-- a chart, rules, points
abbrev pub monitor_grammar : Grammar
monitor_grammar = one chart_line ∷ many rule_line ∷ many point_line ∷ []

-- what the line of a point says, and the point that such a line says
abbrev pub values_of_point : NodeReading → Says point_line
values_of_point p = (p.node, (p.reading, tt))

abbrev pub point_said : Says point_line → NodeReading
point_said x = node_reading x.0 x.1.0

unfoldable pub point_values : List NodeReading → List (Says point_line)
point_values [] = []
point_values (p ∷ ps) = values_of_point p ∷ point_values ps

unfoldable pub points_said : List (Says point_line) → List NodeReading
points_said [] = []
points_said (x ∷ xs) = point_said x ∷ points_said xs

abbrev pub monitor_contents : ℤ → ℕ → List Rule → List NodeReading → Contents monitor_grammar
monitor_contents centre sigma rs ps = ((centre, (sigma, tt)), (rule_values rs, (point_values ps, tt)))
