-- CLAIMS: by which numbers the texts of the table program are refused, and by which none is.
use Rattle.std.specs.Prelude.{ℕ, ◌≡◌, refl, List}
use Rattle.rules.specs.Numbers.{OneOf}
use Rattle.write.specs.Refused.{refused_line}
use Rattle.write.specs.Printed.{printed_bytes}
use Rattle.table_report.specs.TableReport.{table_printed}
use Rattle.text_claims.specs.NumbersApartLaws.{elem, apart, apart_never}
use Rattle.rules.specs.Numbers.{library_numbers}
use Rattle.table_claims.specs.TableOutput.{table_numbers}
use Rattle.table_claims.proofs.TableNumbersLaws.{table_refusals as table_refusals_proved}

-- A refusal that the table program prints has one of its numbers; so 5, 6, 7 and 11 to 15 are never printed.
pub table_refusals : (s : List ℕ) (n p : ℕ) → printed_bytes (table_printed s) ≡ refused_line n p → OneOf table_numbers n
table_refusals = table_refusals_proved

-- A number that library calls alone give is never printed.
pub table_never : (s : List ℕ) (n p : ℕ) → OneOf library_numbers n → printed_bytes (table_printed s) ≡ refused_line n p → ⊥
unfolding apart elem
table_never s n p o e = apart_never library_numbers refl (table_refusals s n p e) o
