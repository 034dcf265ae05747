-- TO BELIEVE: the lines of printed bytes, those of them that are a node's, their last fields, and what document 01's monitor program
-- prints for one chart. Definitions.
use Rattle.std.specs.Prelude.{ℕ, zero, suc, ◌+◌, Bool, true, false, cond, ◌||◌, List, [], ◌∷◌, ◌++◌, map, eqb, length, ◌≡◌}
use Rattle.window.specs.ReferenceChart.{Answer, refused, quiet, signal}
use Rattle.decimal.specs.Decimal.{decimal}
use Rattle.decimal.specs.Fields.{field}
use Rattle.decimal.specs.Word.{comma, newline}
use Rattle.monitor_lines.specs.MonitorLines.{quiet_word, signal_word, total_word}
use Rattle.monitor_report.specs.Points.{signals_in}
use Rattle.monitor_text.specs.Readings.{NodeReading}
use Rattle.window.specs.ReferenceChart.{Answer, refused, quiet, signal}
use Rattle.monitor_text.specs.Readings.{NodeReading}
use Rattle.monitor_report.specs.Points.{NodeAnswer, signals_in}

-- ---- lines

-- a byte before the first line
abbrev onto : ℕ → List (List ℕ) → List (List ℕ)
onto b [] = (b ∷ []) ∷ []
onto b (l ∷ ls) = (b ∷ l) ∷ ls

-- the lines of bytes, each without its LF, which is 10
unfoldable pub lines_in : List ℕ → List (List ℕ)
lines_in [] = []
lines_in (b ∷ bytes) = cond (eqb b 10) ([] ∷ lines_in bytes) (onto b (lines_in bytes))

-- lines, each with its LF
unfoldable pub with_ends : List (List ℕ) → List ℕ
with_ends [] = []
with_ends (l ∷ ls) = l ++ (10 ∷ with_ends ls)

-- what stands before the first comma, which is 44, and what stands behind it
unfoldable pub before_comma : List ℕ → List ℕ
before_comma [] = []
before_comma (b ∷ line) = cond (eqb b 44) [] (b ∷ before_comma line)

unfoldable pub behind_comma : List ℕ → List ℕ
behind_comma [] = []
behind_comma (b ∷ line) = cond (eqb b 44) line (behind_comma line)

unfoldable pub same_bytes : List ℕ → List ℕ → Bool
same_bytes [] [] = true
same_bytes [] (y ∷ ys) = false
same_bytes (x ∷ xs) [] = false
same_bytes (x ∷ xs) (y ∷ ys) = cond (eqb x y) (same_bytes xs ys) false

-- what stands after the first word of a line is the node: the bytes between its first comma and the next
unfoldable pub of_node : ℕ → List (List ℕ) → List (List ℕ)
of_node node [] = []
of_node node (l ∷ ls) = cond (same_bytes (before_comma (behind_comma l)) (decimal node)) (l ∷ of_node node ls) (of_node node ls)

-- the lines that are printed for a node, in their order
unfoldable pub node_lines : ℕ → List ℕ → List (List ℕ)
node_lines node bytes = of_node node (lines_in bytes)

-- the word is `quiet` or `signal`
unfoldable pub of_point : List ℕ → Bool
of_point word = same_bytes word quiet_word || same_bytes word signal_word

-- the quiet and signal lines: those with this first word
unfoldable pub points_in : List (List ℕ) → List (List ℕ)
points_in [] = []
points_in (l ∷ ls) = cond (of_point (before_comma l)) (l ∷ points_in ls) (points_in ls)

-- what stands behind the last comma of bytes and a line, where no comma is among the bytes
unfoldable pub since_comma : List ℕ → List ℕ → List ℕ
since_comma bytes [] = bytes
since_comma bytes (b ∷ line) = cond (eqb b 44) (since_comma [] line) (since_comma (bytes ++ (b ∷ [])) line)

-- the last field of a line
abbrev pub last_field : List ℕ → List ℕ
last_field l = since_comma [] l

-- the period fields of a node: the last ones of its quiet and signal lines, in their order
abbrev pub period_fields : ℕ → List ℕ → List (List ℕ)
period_fields node bytes = map last_field (points_in (node_lines node bytes))

-- n, n + 1, .., so many of them
unfoldable pub count_from : ℕ → ℕ → List ℕ
count_from n zero = []
count_from n (suc many) = n ∷ count_from (n + 1) many

-- a line with the node after its first word
unfoldable pub with_node : ℕ → List ℕ → List ℕ
with_node node l = before_comma l ++ (field node ++ (comma ++ behind_comma l))

-- lines in which each quiet and signal line has a last field more: the number of such lines up to it, from n
unfoldable pub with_periods : ℕ → List (List ℕ) → List (List ℕ)
with_periods n [] = []
with_periods n (l ∷ ls) = cond (of_point (before_comma l)) ((l ++ field n) ∷ with_periods (n + 1) ls) (l ∷ with_periods n ls)

-- ---- document 01's lines for one chart

-- quiet,n and signal,n,mask
abbrev alone_line : Answer → List ℕ
alone_line (refused n) = []
alone_line (quiet n) = quiet_word ++ field n ++ newline
alone_line (signal n mask) = signal_word ++ field n ++ field mask ++ newline

unfoldable pub alone_lines : List Answer → List ℕ
alone_lines [] = []
alone_lines (a ∷ rest) = alone_line a ++ alone_lines rest

-- a line for each answer, then total,points,signals
unfoldable pub alone_bytes : List Answer → List ℕ
alone_bytes answers = alone_lines answers ++ (total_word ++ field (length answers) ++ field (signals_in answers) ++ newline)

-- the answers that are the node's
unfoldable pub answers_of : ℕ → List NodeAnswer → List NodeAnswer
answers_of k [] = []
answers_of k (a ∷ rest) = cond (eqb a.node k) (a ∷ answers_of k rest) (answers_of k rest)

-- every point is of this node
unfoldable pub OnlyNode : ℕ → List NodeReading → Type 0
OnlyNode k [] = Unit {0}
OnlyNode k (p ∷ ps) = (p.node ≡ k) × OnlyNode k ps

-- ---- what the run lengths add up to

-- the count that an answer tells
abbrev pub count_in : Answer → ℕ
count_in (refused n) = 0
count_in (quiet n) = n
count_in (signal n mask) = n

-- the run lengths that have ended, added up: a signal's count is a run length
abbrev pub runs_after : ℕ → Answer → ℕ
runs_after runs (refused n) = runs
runs_after runs (quiet n) = runs
runs_after runs (signal n mask) = runs + n

-- each period is the run lengths before it and its own count
unfoldable pub AddsUp : ℕ → List NodeAnswer → Type 0
AddsUp runs [] = Unit {0}
AddsUp runs (a ∷ rest) = (a.period ≡ runs + count_in a.answer) × AddsUp (runs_after runs a.answer) rest
