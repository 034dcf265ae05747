-- CLAIMS: the weights program, for every text, of the bytes that its output function's contract names; and that a table text takes its line.
use Rattle.std.specs.Prelude.{ℕ, ◌≤◌, ◌≡◌, List, [], ◌∷◌, ◌++◌, ℤ, nat_abs, length}
use Rattle.rules.specs.declared.Rule.{Rule}
use Rattle.rules.specs.Weights.{weight_list}
use Rattle.shift.specs.Shift.{max_shift, weights_of}
use Rattle.grammar.specs.Form.{line}
use Rattle.grammar.specs.Grammar.{one as oneLine, many, TextIs}
use Rattle.grammar.specs.Size.{max_text}
use Rattle.grammar.specs.TextReading.{seen}
use Rattle.grammar.specs.Read.{found}
use Rattle.rule_lines.specs.Rules.{rule_line, rule_values}
use Rattle.table_text.specs.TableGrammar.{weights_line, horizon_line}
use Rattle.write.specs.Printed.{printed_bytes}
use Rattle.weights_report.specs.WeightLine.{weight_line}
use Rattle.weights_report.specs.WeightsReport.{weights_printed}
use Rattle.table_claims.specs.TableTexts.{TableTextIs}
use Rattle.weights_claims.specs.WeightsTexts.{ShiftTextIs, WeightsProgram}
use Rattle.weights_claims.specs.WeightsTexts.{weight_values}
use Rattle.weights_claims.specs.WeightsProgramLaws.{weights_program as weights_program_proved, weights_printed_lem as weights_printed_proved, weights_read_back as weights_read_back_proved}
use Rattle.weights_claims.specs.WeightsProgramLaws.{weights_then_rules as weights_then_rules_proved}

-- For every text: one refusal line, with the number and the place of a reason that holds of the text; or the text is the line of a shift
-- in bounds, and what is printed is the line of its weights.
pub weights_program : (s : List ℕ) → WeightsProgram s (printed_bytes (weights_printed s))
weights_program = weights_program_proved

-- The other way round: a text that is the line of a shift in bounds is not refused.
pub weights_printed_lem : {s : List ℕ} {x : ℤ} → ShiftTextIs s x → nat_abs x ≤ max_shift
    → printed_bytes (weights_printed s) ≡ weight_line (weights_of x)
weights_printed_lem = weights_printed_proved

-- What is printed for a shift in bounds is read as its weights, whatever stands behind it.
pub weights_read_back : {s : List ℕ} {x : ℤ} → ShiftTextIs s x → nat_abs x ≤ max_shift → (rest : List ℕ)
    → seen (line weights_line) (printed_bytes (weights_printed s) ++ rest) 0 ≡ found (weight_values (weights_of x)) (length (printed_bytes (weights_printed s)))
weights_read_back = weights_read_back_proved

-- So with the lines of rules and a horizon behind it, as it stands, it is a table text of those weights.
pub weights_then_rules : {s : List ℕ} {x : ℤ} → ShiftTextIs s x → nat_abs x ≤ max_shift → (rs : List Rule) (h : ℕ) {rest : List ℕ}
    → TextIs (many rule_line ∷ oneLine horizon_line ∷ []) (rule_values rs, ((h, tt), tt)) rest
    → length (printed_bytes (weights_printed s) ++ rest) ≤ max_text
    → TableTextIs (printed_bytes (weights_printed s) ++ rest) (weight_list (weights_of x)) rs h
weights_then_rules = weights_then_rules_proved
