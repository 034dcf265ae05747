-- A weights line of another number of weights. Laws.
use Rattle.std.specs.Prelude.{ℕ, ◌≤◌, ◌≡◌}
use Rattle.std.proofs.Common.{sym, ◌∙◌}
use Rattle.std.proofs.Math.Path.{ap}
use mathlib.Core.List.{List, ◌∷◌, ◌++◌, append_assoc}
use Rattle.std.proofs.Math.ListN.{length}
use Rattle.rules.specs.Bounds.{zone_count}
use Rattle.rules.specs.Refusal.{number_of, bad_line}
use Rattle.decimal.specs.Word.{newline}
use Rattle.decimal.specs.Fields.{fields}
use Rattle.grammar.specs.NumberFields.{numbers_in}
use Rattle.grammar.proofs.NumberFieldsLaws.{numbers_length, values_fields}
use Rattle.grammar.specs.Form.{line, saying}
use Rattle.grammar.specs.Size.{max_text}
use Rattle.grammar.specs.Blocks.{Begins, here}
use Rattle.grammar.proofs.TextStopsLaws.{stops_by}
use Rattle.table_text.specs.TableGrammar.{weights_word, weights_line, table_grammar}
use Rattle.table_text.specs.TableTextLaws.{clear_table}
use Rattle.write.specs.Refused.{refused_line}
use Rattle.write.specs.Printed.{printed_bytes}
use Rattle.table_report.specs.TableReport.{table_printed}
use Rattle.table_claims.proofs.TableBytes.{table_stopped}
use Rattle.text_claims.specs.LineOnceLaws.{line_once}
use Rattle.weights_claims.specs.WeightsTexts.{weights_bytes}

shape : (word numbers rest : List ℕ) → (word ++ numbers ++ newline) ++ rest ≡ word ++ (numbers ++ (10 ∷ rest))
shape word numbers rest = simp append_assoc

shape' : (word numbers rest : List ℕ) → (word ++ (numbers ++ newline)) ++ rest ≡ word ++ (numbers ++ (10 ∷ rest))
shape' word numbers rest = simp append_assoc

module _ (ws rest : List ℕ) (other : length ws ≡ zone_count → ⊥) where
  -- such bytes begin with no weights line
  none_begins : Begins (line weights_line) (weights_bytes ws ++ rest) → ⊥
  unfolding saying
  none_begins b =
      let vs = numbers_in zone_count b.says in
      let row : weights_bytes ws ++ rest ≡ (weights_word ++ (fields vs ++ newline)) ++ b.behind =
      b.bytes ∙ ap (λ (l : List ℕ). (weights_word ++ l) ++ b.behind) (values_fields zone_count b.says) in
      let once = line_once weights_word ws vs rest b.behind (sym (shape weights_word (fields ws) rest) ∙ row ∙ shape' weights_word (fields vs) b.behind) in
      other (ap length once.0 ∙ numbers_length zone_count b.says)

  -- The text begins with a weights line of some other number of weights: it is refused by 16, and the place is line 1.
  pub weights_counted : length (weights_bytes ws ++ rest) ≤ max_text
      → printed_bytes (table_printed (weights_bytes ws ++ rest)) ≡ refused_line (number_of (bad_line 1)) 1
  unfolding table_printed printed_bytes
  weights_counted short = rw (table_stopped short (stops_by table_grammar clear_table.0 (here none_begins)))
