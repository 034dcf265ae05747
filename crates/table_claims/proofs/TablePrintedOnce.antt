-- CLAIMS: what the table program prints determines the numbers.
use Rattle.std.specs.Prelude.{ℕ, ◌≡◌, List}
use Rattle.rules.specs.declared.Rule.{Rule}
use Rattle.write.specs.Printed.{printed_bytes}
use Rattle.table_report.specs.TableReport.{table_printed}
use Rattle.table_claims.specs.TableTexts.{TableTextIs}
use Rattle.table_claims.specs.TableOutput.{Figures, figure_lines, FiguresHold, FiguresHoldByRow}
use Rattle.table_claims.specs.TableOutput.{SameFigures}
use Rattle.table_claims.proofs.TablePrintedOnceLaws.{table_once as table_once_proved, table_read_off as table_read_off_proved}
use Rattle.table_claims.proofs.TablePrintedOnceLaws.{table_read_off_by_row as table_read_off_by_row_proved}

-- The lines of a table determine how many rows there are and every number in them.
pub table_once : (h h' : ℕ) (f g : Figures) → figure_lines h f ≡ figure_lines h' g → (h ≡ h') × SameFigures h f g
table_once = table_once_proved

-- Whoever reads the table program's output as the lines of h rows of any numbers g reads numbers that hold, of the weights, the rules and the
-- horizon h whose lines the text is.
pub table_read_off : (s : List ℕ) (h : ℕ) (g : Figures) → printed_bytes (table_printed s) ≡ figure_lines h g
    → (w : List ℕ) × (rs : List Rule) × TableTextIs s w rs h × FiguresHold w rs h g
table_read_off = table_read_off_proved

-- The same, of the figures over rows of the plain chart.
pub table_read_off_by_row : (s : List ℕ) (h : ℕ) (g : Figures) → printed_bytes (table_printed s) ≡ figure_lines h g
    → (w : List ℕ) × (rs : List Rule) × TableTextIs s w rs h × FiguresHoldByRow w rs h g
table_read_off_by_row = table_read_off_by_row_proved
