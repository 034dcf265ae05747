-- A report's number of bytes in the array that a caller lends. Working definition; `ReportCall` says what a caller gets.
use Rattle.std.specs.Prelude.{ℕ, List, set, Err, Ok, Result}

abbrev pub answer_count : {R : Type 0} → Result ℕ R → List ℕ → List ℕ
answer_count (Ok n) count = set count 0 n
answer_count (Err x) count = count
