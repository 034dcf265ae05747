-- BY CONTRACT: what the table program prints for a text, by what its parser gives. `table_program` says what it is, from bytes to bytes. Definitions.
use Rattle.std.specs.Prelude.{ℕ, List, replicate, Err, Ok, Result}
use Rattle.summary.specs.declared.Summary.{Summary}
use Rattle.rules.specs.declared.refusal.Refusal.{Refusal}
use Rattle.table.specs.Table.{TableCall, table_call}
use Rattle.summary.specs.Summary.{summary_of}
use Rattle.table_text.specs.declared.TableText.{TableText}
use Rattle.table_text.specs.TableText.{table_text}
use Rattle.table_lines.specs.LargestHorizon.{max_rows, report_horizon}
use Rattle.table_lines.specs.TableLines.{table_bytes}
use Rattle.write.specs.Printed.{Printed, lines, refused_by}
use Rattle.table.specs.Table.{CallResult}

-- an empty list of the program's largest horizon
unfoldable pub blank : List ℕ
blank = replicate max_rows 0

-- the table of what was read: its rules, weights and horizon, with two such lists
abbrev pub report_call : TableText → TableCall
report_call t = table_call t.list t.weights (report_horizon t.horizon) blank blank

-- the table's lines, or its refusal
abbrev pub table_lines : Result Summary Refusal → ℕ → List ℕ → List ℕ → Printed
table_lines (Ok s) h pmf survival = lines (table_bytes s h pmf survival)
table_lines (Err x) h pmf survival = refused_by x

abbrev pub summary_lines : CallResult (Result Summary Refusal) → ℕ → Printed
summary_lines r h = table_lines r.answer h r.pmf_list r.survival_list

-- what was read: the table, or a refusal of the text
abbrev pub text_lines : Result TableText Refusal → Printed
text_lines (Ok t) = summary_lines (summary_of (report_call t)) (report_horizon t.horizon)
text_lines (Err x) = refused_by x

unfoldable pub table_printed : List ℕ → Printed
table_printed s = text_lines (table_text s)
