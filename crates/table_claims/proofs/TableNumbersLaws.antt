-- The number of each reason for which a table text is refused. Laws.
use Rattle.std.specs.Prelude.{ℕ, ◌≡◌, refl, List}
use Rattle.std.proofs.Common.{sym, ◌∙◌}
use Rattle.rules.specs.Numbers.{OneOf, here, there}
use Rattle.write.specs.Refused.{refused_line}
use Rattle.write.specs.Printed.{printed_bytes}
use Rattle.table_report.specs.TableReport.{table_printed}
use Rattle.table_claims.specs.TableOutput.{TableRefusal, TableProgram, refuses, prints, too_long_lem, bad_line_lem, bad_table}
use Rattle.table_claims.proofs.TableProgram.{table_program}
use Rattle.table_claims.proofs.TablePrintedOnceLaws.{table_not_refused}
use Rattle.text_claims.specs.NumbersApartLaws.{refused_number}
use Rattle.table_claims.specs.TableOutput.{table_numbers}

table_numbers_lem : {s : List ℕ} {n p : ℕ} → TableRefusal s n p → OneOf table_numbers n
table_numbers_lem (too_long_lem l) = here refl
table_numbers_lem (bad_line_lem place l st) = there (here refl)
table_numbers_lem (bad_table w rs h x is c o) = there (there o)

-- A refusal that the table program prints has one of its numbers; so 5, 6, 7 and 11 to 15 are never printed.
pub table_refusals : (s : List ℕ) (n p : ℕ) → printed_bytes (table_printed s) ≡ refused_line n p → OneOf table_numbers n
table_refusals s n p e = go (table_program s)
  where
    go : TableProgram s (printed_bytes (table_printed s)) → OneOf table_numbers n
    go (refuses number place q r) = rw (refused_number n p number place (sym e ∙ q)) (table_numbers_lem r)
    go (prints w rs h f is m ok q t) = absurd (table_not_refused h f n p (sym q ∙ e))
