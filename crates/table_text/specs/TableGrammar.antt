-- TO BELIEVE: the kinds of line of a table text, its grammar, and what its lines say. Definitions.
use Rattle.std.specs.Prelude.{ℕ, List, [], ◌∷◌}
use Rattle.rules.specs.declared.Rule.{Rule}
use Rattle.rules.specs.Bounds.{zone_count}
use Rattle.grammar.specs.LineValues.{number}
use Rattle.grammar.specs.NumberFields.{numbers, number_values}
use Rattle.grammar.specs.Form.{Kind, named}
use Rattle.grammar.specs.Grammar.{Grammar, one, many, Contents}
use Rattle.rule_lines.specs.Rules.{rule_line, rule_values}

-- `weights`, and a number for each zone
abbrev pub weights_word : List ℕ
weights_word = 119 ∷ 101 ∷ 105 ∷ 103 ∷ 104 ∷ 116 ∷ 115 ∷ []

abbrev pub weights_line : Kind
weights_line = named weights_word (numbers zone_count)

-- `horizon`, and a number
abbrev pub horizon_word : List ℕ
horizon_word = 104 ∷ 111 ∷ 114 ∷ 105 ∷ 122 ∷ 111 ∷ 110 ∷ []

abbrev pub horizon_line : Kind
horizon_line = named horizon_word (number ∷ [])

-- weights, rules, a horizon
abbrev pub table_grammar : Grammar
table_grammar = one weights_line ∷ many rule_line ∷ one horizon_line ∷ []

abbrev pub table_contents : List ℕ → List Rule → ℕ → Contents table_grammar
table_contents w rs h = (number_values zone_count w, (rule_values rs, ((h, tt), tt)))
