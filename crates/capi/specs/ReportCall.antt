-- TO BELIEVE: a call of a program's report. Definitions.
use Rattle.std.specs.Prelude.{ℕ, ◌≡◌, List, length, set, Err, Ok}
use Rattle.rules.specs.Check.{Checked}
use Rattle.write.specs.Printed.{Printed, lines, refused_by, report_of}
use Rattle.codes.specs.Codes.{check_code}

abbrev pub printed_checked : Printed → Checked
printed_checked (lines bytes) = Ok tt
printed_checked (refused_by x) = Err x

-- what the count's array of one number then holds: how many bytes; a refusal leaves it as it was
abbrev pub count_after : Printed → List ℕ → List ℕ
count_after (lines bytes) count = set count 0 (length bytes)
count_after (refused_by x) count = count

pub record ReportCall (p : Printed) (out count out' count' : List ℕ) (r : ℕ) : Type 0 where
  pub code : r ≡ check_code (printed_checked p)
  pub buffer : out' ≡ (report_of p out).buffer
  pub bytes : count' ≡ count_after p count
