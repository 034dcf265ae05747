-- CLAIM: the table program, for every text, of the bytes that its output function's contract names.
use Rattle.std.specs.Prelude.{ℕ, ◌≡◌, List, Ok}
use Rattle.rules.specs.declared.Rule.{Rule}
use Rattle.table.specs.Table.{chain_check}
use Rattle.rule_lines.specs.Rules.{rule_list_of}
use Rattle.write.specs.Printed.{printed_bytes}
use Rattle.table_lines.specs.LargestHorizon.{report_horizon}
use Rattle.table_report.specs.TableReport.{table_printed}
use Rattle.table_claims.specs.TableTexts.{TableTextIs}
use Rattle.table_claims.specs.TableOutput.{Figures, figure_lines, FiguresHold, FiguresHoldByRow, TableProgram, TableProgramByRow}
use Rattle.table_claims.proofs.TableProgramLaws.{table_program as table_program_proved, table_printed_lem as table_printed_proved}
use Rattle.table_claims.proofs.TableProgramLaws.{table_program_by_row as table_program_by_row_proved, table_printed_by_row as table_printed_by_row_proved}

-- For every text: one refusal line, with the number and the place of a reason that holds of the text; or the text is the lines of weights w,
-- rules rs and a horizon h, and what is printed is the lines of figures that bound the exact ones of w, rs and h as demand 3 says.
pub table_program : (s : List ℕ) → TableProgram s (printed_bytes (table_printed s))
table_program = table_program_proved

-- The other way round: a text that is the lines of weights, rules and a horizon which make a chart is not refused.
pub table_printed_lem : {s : List ℕ} {w : List ℕ} {rs : List Rule} {h : ℕ} → TableTextIs s w rs h
    → chain_check (rule_list_of rs) w (report_horizon h) ≡ Ok tt
    → (f : Figures) × (printed_bytes (table_printed s) ≡ figure_lines h f) × FiguresHold w rs h f
table_printed_lem = table_printed_proved

-- The same, with the figures said over rows of the plain chart.
pub table_program_by_row : (s : List ℕ) → TableProgramByRow s (printed_bytes (table_printed s))
table_program_by_row = table_program_by_row_proved

pub table_printed_by_row : {s : List ℕ} {w : List ℕ} {rs : List Rule} {h : ℕ} → TableTextIs s w rs h
    → chain_check (rule_list_of rs) w (report_horizon h) ≡ Ok tt
    → (f : Figures) × (printed_bytes (table_printed s) ≡ figure_lines h f) × FiguresHoldByRow w rs h f
table_printed_by_row = table_printed_by_row_proved
