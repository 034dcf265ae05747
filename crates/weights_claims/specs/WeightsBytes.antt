-- CLAIMS: the weights program's text. It is accepted exactly where it is the line of a shift, and it then gives this; where it stops being one it is
-- refused by 16, there.
use Rattle.std.specs.Prelude.{ℕ, ◌≤◌, ◌<◌, ◌≡◌, List, ℤ, length, Ok, Err}
use Rattle.std.proofs.Common.{ap}
use Rattle.rules.specs.Refusal.{bad_line, too_long}
use Rattle.grammar.specs.Grammar.{Contents, Stops}
use Rattle.grammar.specs.Size.{max_text}
use Rattle.grammar.specs.Read.{too_long_lem, wrong, right}
use Rattle.grammar.proofs.EveryGrammar.{contents_once, is_reading}
use Rattle.weights_report.specs.ShiftText.{shift_grammar, shift_by, shift_text}
use Rattle.weights_report.specs.ShiftTextLaws.{clear_shift}
use Rattle.weights_claims.specs.WeightsTexts.{ShiftTextIs}
use Rattle.weights_claims.specs.WeightsBytesLaws.{text_short}
use Rattle.weights_claims.specs.WeightsBytesLaws.{shift_exactly as shift_exactly_proved}

-- The line of a shift is read as that shift.
pub shift_read : {s : List ℕ} {x : ℤ} → ShiftTextIs s x → shift_text s ≡ Ok x
unfolding shift_text shift_by
shift_read {s} {x} t = rw (is_reading shift_grammar clear_shift s (right (text_short t) t.text))

-- A text is the line of at most one shift.
pub shift_text_once : {s : List ℕ} {x y : ℤ} → ShiftTextIs s x → ShiftTextIs s y → x ≡ y
shift_text_once t u = ap (λ (c : Contents shift_grammar). c.0.0) (contents_once clear_shift t.text u.text)

-- A text is accepted exactly where it is the line of a shift.
pub shift_exactly : (s : List ℕ) (x : ℤ) → shift_text s ≡ Ok x → ShiftTextIs s x
shift_exactly = shift_exactly_proved

-- ---- and a text that stops being one is refused by 16, there

-- Bytes that stop being a text at a line are refused by 16, with that line as the place.
pub shift_stopped : {s : List ℕ} {place : ℕ} → length s ≤ max_text → Stops shift_grammar s place → shift_text s ≡ Err (bad_line place)
unfolding shift_text shift_by
shift_stopped {s} {place} l st = rw (is_reading shift_grammar clear_shift s (wrong l st))

-- Longer bytes than a text may have are refused by 17.
pub shift_too_long : (s : List ℕ) → max_text < length s → shift_text s ≡ Err too_long
unfolding shift_text shift_by
shift_too_long s l = rw (is_reading shift_grammar clear_shift s (too_long_lem l))
