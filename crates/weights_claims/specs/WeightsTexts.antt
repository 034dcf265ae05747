-- TO BELIEVE: the weights program: what it is for bytes to be its text, and what is claimed to be printed. Definitions.
use Rattle.std.specs.Prelude.{ℕ, ◌≤◌, ◌<◌, ◌≡◌, List, ℤ, nat_abs, length, ◌++◌, [], ◌∷◌}
use Rattle.rules.specs.Refusal.{number_of, bad_line, too_long, bad_shift}
use Rattle.grammar.specs.Grammar.{TextIs, Stops}
use Rattle.grammar.specs.Size.{max_text}
use Rattle.shift.specs.Shift.{max_shift, weights_of}
use Rattle.shift.specs.Shifted.{Shifted}
use Rattle.write.specs.Refused.{refused_line}
use Rattle.weights_report.specs.ShiftText.{shift_grammar, shift_contents}
use Rattle.weights_report.specs.WeightLine.{weight_line}
use Rattle.rules.specs.declared.weights.ZoneWeights.{ZoneWeights}
use Rattle.rules.specs.Bounds.{zone_count}
use Rattle.rules.specs.Weights.{weight_list}
use Rattle.shift.specs.Shift.{max_shift, weights_of}
use Rattle.shift.specs.Shifted.{Shifted}
use Rattle.grammar.specs.NumberFields.{number_values}
use Rattle.grammar.specs.Form.{Says}
use Rattle.grammar.specs.Grammar.{TextIs}
use Rattle.table_text.specs.TableGrammar.{weights_line}
use Rattle.weights_report.specs.ShiftText.{shift_grammar}
use Rattle.rules.specs.Refusal.{bad_line}
use Rattle.decimal.specs.Word.{newline}
use Rattle.decimal.specs.Fields.{fields}
use Rattle.table_text.specs.TableGrammar.{weights_word, weights_line}
use Rattle.rules.specs.Refusal.{bad_line, too_long}
use Rattle.rules.specs.Refusal.{bad_shift}

-- s is the text of this shift: its line, and nothing else
pub record ShiftTextIs (s : List ℕ) (x : ℤ) : Type 0 where
  pub text : TextIs shift_grammar (shift_contents x) s

-- why a text is refused, with the number and the place
pub data WeightsRefusal (s : List ℕ) : ℕ → ℕ → Type 0 where
  too_long_lem : max_text < length s → WeightsRefusal s (number_of too_long) 0
  bad_line_lem : (place : ℕ) → length s ≤ max_text → Stops shift_grammar s place → WeightsRefusal s (number_of (bad_line place)) place
  bad_shift_lem : (x : ℤ) → ShiftTextIs s x → max_shift < nat_abs x → WeightsRefusal s (number_of bad_shift) 0

-- what the weights program prints for the text s
pub data WeightsProgram (s : List ℕ) (printed : List ℕ) : Type 0 where
  -- one refusal line, and the reason holds of the text
  refuses : (number place : ℕ) → printed ≡ refused_line number place → WeightsRefusal s number place → WeightsProgram s printed
  -- the line of the weights of the shift whose line the text is
  prints : (x : ℤ) → ShiftTextIs s x → nat_abs x ≤ max_shift → printed ≡ weight_line (weights_of x) → Shifted x (weights_of x)
      → WeightsProgram s printed

-- what a weights line of these says
abbrev pub weight_values : ZoneWeights → Says weights_line
weight_values w = number_values zone_count (weight_list w)

-- the bytes of a line with the keyword `weights` and these numbers
abbrev pub weights_bytes : List ℕ → List ℕ
weights_bytes ws = weights_word ++ fields ws ++ newline

-- the numbers that a text is refused by
abbrev pub weights_numbers : List ℕ
weights_numbers = number_of too_long ∷ number_of (bad_line 0) ∷ number_of bad_shift ∷ []
