-- What the weights program prints, case by case. Laws.
use Rattle.std.specs.Prelude.{ℕ, ◌+◌, ◌≤◌, ◌≡◌, refl, Bool, true, false, cond, List, [], ◌∷◌, ◌++◌, leb, ℤ, nat_abs, length, get_or, Err, Ok}
use Rattle.std.proofs.Common.{sym, ap, ◌∙◌, append_assoc, arith, leb-true, leb-false}
use Rattle.rules.specs.declared.Rule.{Rule}
use Rattle.rules.specs.declared.weights.ZoneWeights.{ZoneWeights}
use Rattle.rules.specs.Bounds.{zone_count}
use Rattle.rules.specs.Refusal.{number_of, bad_line, too_long, bad_shift}
use Rattle.rules.specs.Weights.{weight_list}
use Rattle.shift.specs.Shift.{max_shift, weights_of, shift_of}
use Rattle.shift.specs.Shifted.{Shifted, Whole}
use Rattle.shift.proofs.ShiftedWeights.{shift_accepted, weights_shifted}
use Rattle.decimal.specs.Fields.{fields, AllUnsigned, none, one}
use Rattle.decimal.specs.Word.{newline}
use Rattle.grammar.proofs.NumberFieldsLaws.{in_values, values_fields, values_fit}
use Rattle.grammar.specs.Form.{line_bytes, line, saying}
use Rattle.grammar.specs.Grammar.{one as oneLine, many, Contents, lines_of, bytes_of_all, AllFit, TextIs}
use Rattle.grammar.specs.Size.{max_text}
use Rattle.grammar.specs.TextReading.{read_text, seen}
use Rattle.grammar.specs.Read.{Reading, found}
use Rattle.grammar.specs.Read.{ReadingIs, too_long_lem as reading-too-long, wrong, right}
use Rattle.grammar.proofs.FormLaws.{stands_of, stands_seen}
use Rattle.grammar.proofs.EveryGrammar.{reading_is}
use Rattle.rule_lines.specs.Rules.{rule_line, rule_values}
use Rattle.table_text.specs.TableGrammar.{weights_word, weights_line, horizon_line}
use Rattle.write.specs.Refused.{refused_line}
use Rattle.write.specs.Printed.{printed_bytes}
use Rattle.weights_report.specs.ShiftText.{shift_grammar, shift_by, shift_text}
use Rattle.weights_report.specs.ShiftTextLaws.{clear_shift}
use Rattle.weights_report.specs.WeightLine.{weight_line}
use Rattle.weights_report.specs.WeightsReport.{weights_for, text_weights, weights_by, weights_printed}
use Rattle.table_claims.specs.TableTexts.{TableTextIs}
use Rattle.weights_claims.specs.WeightsTexts.{ShiftTextIs, WeightsProgram, bad_shift_lem, refuses, prints, too_long_lem, bad_line_lem}
use Rattle.weights_claims.specs.WeightsBytes.{shift_read}
use Rattle.weights_claims.specs.WeightsTexts.{weight_values}

-- a shift in bounds has the weights of a shifted core
in_bounds_shifted : (x : ℤ) → nat_abs x ≤ max_shift → Shifted x (weights_of x)
in_bounds_shifted x h = weights_shifted x (weights_of x) (shift_accepted x h)

-- For every text: one refusal line, with the number and the place of a reason that holds of the text; or the text is the line of a shift
-- in bounds, and what is printed is the line of its weights.
pub weights_program : (s : List ℕ) → WeightsProgram s (printed_bytes (weights_printed s))
unfolding weights_printed text_weights printed_bytes shift_of shift_text shift_by
weights_program s = go (read_text shift_grammar s) (reading_is shift_grammar clear_shift s)
  where
    by_shift : (x : ℤ) → ShiftTextIs s x → WeightsProgram s (printed_bytes (weights_by (shift_of x)))
    by_shift x is = by_size (leb (nat_abs x) max_shift) refl
      where
        by_size : (b : Bool) → leb (nat_abs x) max_shift ≡ b
            → WeightsProgram s (printed_bytes (weights_by (cond b (Ok (weights_of x)) (Err bad_shift))))
        by_size true e = let h = leb-true (nat_abs x) max_shift e in prints x is h refl (in_bounds_shifted x h)
        by_size false e = refuses (number_of bad_shift) 0 refl (bad_shift_lem x is (leb-false (nat_abs x) max_shift e))

    go : (r : Reading (Contents shift_grammar)) → ReadingIs shift_grammar s r → WeightsProgram s (printed_bytes (weights_by (weights_for (shift_by r))))
    go r (reading-too-long l) = refuses (number_of too_long) 0 refl (too_long_lem l)
    go r (wrong {n} l st) = refuses (number_of (bad_line n)) n refl (bad_line_lem n l st)
    go r (right {c} l t) = by_shift c.0.0 (record { text = t })

-- The other way round: a text that is the line of a shift in bounds is not refused.
pub weights_printed_lem : {s : List ℕ} {x : ℤ} → ShiftTextIs s x → nat_abs x ≤ max_shift
    → printed_bytes (weights_printed s) ≡ weight_line (weights_of x)
unfolding weights_printed text_weights printed_bytes
weights_printed_lem {s} {x} is h = rw (shift_read is, shift_accepted x h)

-- a weights line is no refusal
pub weights_not_refused : (w : ZoneWeights) (n p : ℕ) → weight_line w ≡ refused_line n p → ⊥
unfolding refused_line weight_line
weights_not_refused w n p e = let z : ◌≡◌ {A = ℕ} 119 114 = ap (λ l. get_or l 0 0) e in omega arith

-- ---- the line is read back

-- every weight is within 32 bits
weights_range : (w : ZoneWeights) → Whole w → AllUnsigned (weight_list w)
weights_range w t =
    one {n = w.s} (omega (arith, t.s_missing))
    (one {n = w.a1} (omega (arith, t.s_missing))
    (one {n = w.b1} (omega (arith, t.s_missing))
    (one {n = w.c1} (omega (arith, t.s_missing))
    (one {n = w.c2} (omega (arith, t.s_missing))
    (one {n = w.b2} (omega (arith, t.s_missing))
    (one {n = w.a2} (omega (arith, t.s_missing))
    (one {n = w.c0} (omega (arith, t.c0_none))
    none)))))))

-- the printed line is the weights line of a table text
line_bytes_lem : (w : ZoneWeights) → weight_line w ≡ line_bytes weights_line (weight_values w)
unfolding weight_line
line_bytes_lem w =
    append_assoc weights_word (fields (weight_list w)) newline
    ∙ ap (λ (l : List ℕ). weights_word ++ (fields l ++ newline)) (sym (in_values zone_count (weight_list w) refl))
    ∙ ap (λ (l : List ℕ). weights_word ++ l) (sym (values_fields zone_count (weight_values w)))

-- What is printed for a shift in bounds is read as its weights, whatever stands behind it.
pub weights_read_back : {s : List ℕ} {x : ℤ} → ShiftTextIs s x → nat_abs x ≤ max_shift → (rest : List ℕ)
    → seen (line weights_line) (printed_bytes (weights_printed s) ++ rest) 0 ≡ found (weight_values (weights_of x)) (length (printed_bytes (weights_printed s)))
unfolding seen
weights_read_back {s} {x} is h rest =
    let W = line_bytes weights_line (weight_values (weights_of x)) in
    let e : 0 + length W ≡ length W = omega arith in
    rw (weights_printed_lem is h, line_bytes_lem (weights_of x))
    (stands_seen weights_line (weight_values (weights_of x))
    (rw e at (stands_of {s = W ++ rest} {at = 0} (weights_line, weight_values (weights_of x)) rest (values_fit (weights_range (weights_of x) (in_bounds_shifted x h).whole)) refl)))

-- So with the lines of rules and a horizon behind it, as it stands, it is a table text of those weights.
pub weights_then_rules : {s : List ℕ} {x : ℤ} → ShiftTextIs s x → nat_abs x ≤ max_shift → (rs : List Rule) (h : ℕ) {rest : List ℕ}
    → TextIs (many rule_line ∷ oneLine horizon_line ∷ []) (rule_values rs, ((h, tt), tt)) rest
    → length (printed_bytes (weights_printed s) ++ rest) ≤ max_text
    → TableTextIs (printed_bytes (weights_printed s) ++ rest) (weight_list (weights_of x)) rs h
unfolding lines_of bytes_of_all saying AllFit
weights_then_rules {s} {x} is b rs h {rest} t short =
    record {
      text =
          record {
            bytes =
                ap (λ (l : List ℕ). l ++ rest) (weights_printed_lem is b ∙ line_bytes_lem (weights_of x))
                ∙ ap (λ (l : List ℕ). line_bytes weights_line (weight_values (weights_of x)) ++ l) t.bytes;
            fit = (values_fit (weights_range (weights_of x) (in_bounds_shifted x b).whole), t.fit);
          };
      short = short;
      zones = refl;
    }
