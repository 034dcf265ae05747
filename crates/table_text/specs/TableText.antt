-- BY CONTRACT: what the table program is given of its text. `table_read`, `table_accepted`, `table_stopped` and `table_too_long` say what it is. Definitions.
use Rattle.std.specs.Prelude.{ℕ, List, Result, Ok, Err}
use Rattle.rules.specs.declared.refusal.Refusal.{Refusal}
use Rattle.rules.specs.Bounds.{zone_count}
use Rattle.rules.specs.Refusal.{bad_line, too_long}
use Rattle.grammar.specs.NumberFields.{numbers_in}
use Rattle.grammar.specs.Grammar.{Contents}
use Rattle.grammar.specs.TextReading.{read_text}
use Rattle.grammar.specs.Read.{Reading, read, stopped, long}
use Rattle.rule_lines.specs.Rules.{rules_said}
use Rattle.table_text.specs.declared.TableText.{TableText}
use Rattle.table_text.specs.TableGrammar.{table_grammar}
use Rattle.table_text.specs.ReadTable.{read_table}

-- the contents; or 16 at the line where the text stops being one; or 17
unfoldable pub table_given : Reading (Contents table_grammar) → Result TableText Refusal
table_given (read c) = Ok (read_table (numbers_in zone_count c.0) (rules_said c.1.0) c.1.1.0.0)
table_given (stopped n) = Err (bad_line n)
table_given long = Err too_long

unfoldable pub table_text : List ℕ → Result TableText Refusal
table_text s = table_given (read_text table_grammar s)
