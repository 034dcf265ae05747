-- The weights program's text by its contents. Laws.
use Rattle.std.specs.Prelude.{ℕ, suc, ◌≤◌, ◌≡◌, List, [], ◌++◌, ℤ, pos, negsuc, length, Ok}
use Rattle.std.proofs.Common.{ap, arith, length-append}
use Rattle.decimal.specs.Decimal.{signed_decimal}
use Rattle.decimal.specs.DecimalLaws.{decimal_short_64}
use Rattle.decimal.specs.Fields.{InSigned, signed_field}
use Rattle.decimal.specs.Word.{newline}
use Rattle.grammar.specs.LineValues.{values_bytes, ValuesFit}
use Rattle.grammar.specs.Form.{saying}
use Rattle.grammar.specs.Grammar.{Contents, lines_of, bytes_of_all, AllFit}
use Rattle.grammar.specs.Size.{max_text}
use Rattle.grammar.specs.TextReading.{read_text}
use Rattle.grammar.specs.Read.{Reading}
use Rattle.grammar.specs.Read.{ReadingIs, too_long_lem, wrong, right}
use Rattle.grammar.proofs.EveryGrammar.{reading_is}
use Rattle.weights_report.specs.ShiftText.{shift_word, shift_grammar, shift_by, shift_text}
use Rattle.weights_report.specs.ShiftTextLaws.{clear_shift}
use Rattle.weights_claims.specs.WeightsTexts.{ShiftTextIs}

-- ---- the line of a shift is read back

-- it is short
signed_short : (x : ℤ) → InSigned x → length (signed_decimal x) ≤ 21
unfolding signed_decimal
signed_short (pos n) h = omega (arith, decimal_short_64 n (omega arith))
signed_short (negsuc n) h = omega (arith, decimal_short_64 (suc n) (omega arith))

pub text_short : {s : List ℕ} {x : ℤ} → ShiftTextIs s x → length s ≤ max_text
unfolding lines_of bytes_of_all saying values_bytes AllFit ValuesFit
text_short {s} {x} t =
    let d = signed_decimal x in
    let f = t.text.fit.0.0 in
    let e : length s ≡ length ((shift_word ++ (signed_field x ++ newline)) ++ []) = ap length t.text.bytes in
    omega (arith, e, length-append (shift_word ++ (signed_field x ++ newline)) [], length-append shift_word (signed_field x ++ newline), length-append (signed_field x) newline, signed_short x f)

-- A text is accepted exactly where it is the line of a shift.
pub shift_exactly : (s : List ℕ) (x : ℤ) → shift_text s ≡ Ok x → ShiftTextIs s x
unfolding shift_text shift_by
shift_exactly s x e = go (read_text shift_grammar s) (reading_is shift_grammar clear_shift s) e
  where
    go : (r : Reading (Contents shift_grammar)) → ReadingIs shift_grammar s r → shift_by r ≡ Ok x → ShiftTextIs s x
    go r (too_long_lem l) e = absurd (let z : ◌≡◌ {A = ℕ} 0 1 = cc in omega arith)
    go r (wrong l st) e = absurd (let z : ◌≡◌ {A = ℕ} 0 1 = cc in omega arith)
    go r (right {c} l t) e = let same : c.0.0 ≡ x = cc in rw (← same) (record { text = t })
