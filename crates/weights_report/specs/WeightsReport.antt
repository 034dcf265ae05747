-- BY CONTRACT: what the weights program prints for a text, by what its parser gives. `weights_program` says what it is, from bytes to bytes. Definitions.
use Rattle.std.specs.Prelude.{ℕ, List, ℤ, Err, Ok, Result}
use Rattle.rules.specs.declared.weights.ZoneWeights.{ZoneWeights}
use Rattle.rules.specs.declared.refusal.Refusal.{Refusal}
use Rattle.shift.specs.Shift.{shift_of}
use Rattle.weights_report.specs.ShiftText.{shift_text}
use Rattle.weights_report.specs.WeightLine.{weight_line}
use Rattle.write.specs.Printed.{Printed, lines, refused_by}

-- the operation on what was read: the text's refusal, 17 or 16, comes before its own, 18
abbrev pub weights_for : Result ℤ Refusal → Result ZoneWeights Refusal
weights_for (Ok s) = shift_of s
weights_for (Err x) = Err x

unfoldable pub text_weights : List ℕ → Result ZoneWeights Refusal
text_weights s = weights_for (shift_text s)

-- the weights' line, or the refusal
abbrev pub weights_by : Result ZoneWeights Refusal → Printed
weights_by (Ok w) = lines (weight_line w)
weights_by (Err x) = refused_by x

unfoldable pub weights_printed : List ℕ → Printed
weights_printed s = weights_by (text_weights s)
