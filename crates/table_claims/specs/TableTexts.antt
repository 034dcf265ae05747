-- TO BELIEVE: what it is for bytes to be a table text. Nothing here reads. Definition.
use Rattle.std.specs.Prelude.{ℕ, ◌≤◌, ◌≡◌, List, length}
use Rattle.rules.specs.declared.Rule.{Rule}
use Rattle.rules.specs.Bounds.{zone_count}
use Rattle.grammar.specs.Grammar.{TextIs}
use Rattle.grammar.specs.Size.{max_text}
use Rattle.table_text.specs.TableGrammar.{table_grammar, table_contents}

-- s is the table text of these weights, rules and horizon: their lines, one behind the other, and nothing else, every number within 32 bits
pub record TableTextIs (s : List ℕ) (w : List ℕ) (rs : List Rule) (h : ℕ) : Type 0 where
  pub text : TextIs table_grammar (table_contents w rs h) s
  pub short : length s ≤ max_text
  pub zones : length w ≡ zone_count
