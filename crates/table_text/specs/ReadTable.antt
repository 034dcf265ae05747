-- TO BELIEVE: what a table text is read as: its weights, its rules and its horizon. Definitions.
use Rattle.std.specs.Prelude.{ℕ, List}
use Rattle.rules.specs.declared.Rule.{Rule}
use Rattle.rule_lines.specs.Rules.{rule_list_of}
use Rattle.table_text.specs.declared.TableText.{TableText}

-- weights, rules and a horizon
unfoldable pub read_table : List ℕ → List Rule → ℕ → TableText
read_table w rs h = record { weights = w; list = rule_list_of rs; horizon = h }
