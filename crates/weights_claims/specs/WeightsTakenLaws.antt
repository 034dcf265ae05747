-- The weights program's line before rules and a horizon. Laws.
use Rattle.std.specs.Prelude.{ℕ, ◌≤◌, ◌≡◌, List, [], ◌∷◌, ◌++◌, ℤ, nat_abs, length, Err}
use Rattle.std.proofs.Common.{sym, ◌∙◌, arith}
use Rattle.rules.specs.declared.Rule.{Rule}
use Rattle.rules.specs.Refusal.{number_of, bad_weights}
use Rattle.rules.specs.Weights.{weight_list}
use Rattle.table.specs.Table.{chain_check}
use Rattle.shift.specs.Shift.{max_shift, weights_of}
use Rattle.shift.proofs.ShiftedWeights.{shift_accepted}
use Rattle.grammar.specs.Grammar.{one, many, TextIs}
use Rattle.grammar.specs.Size.{max_text}
use Rattle.table_text.specs.TableGrammar.{horizon_line}
use Rattle.rule_lines.specs.Rules.{rule_line, rule_values, rule_list_of}
use Rattle.write.specs.Refused.{refused_line}
use Rattle.write.specs.Printed.{printed_bytes}
use Rattle.table_lines.specs.LargestHorizon.{report_horizon}
use Rattle.table_report.specs.TableReport.{table_printed}
use Rattle.weights_report.specs.WeightsReport.{weights_printed}
use Rattle.claims.specs.ShiftedCore.{chain_never_eight}
use Rattle.table_claims.specs.TableOutput.{TableRefusal, TableProgram, refuses, prints, too_long_lem, bad_line_lem, bad_table}
use Rattle.table_claims.proofs.TableBytes.{table_text_once}
use Rattle.table_claims.proofs.TableProgram.{table_program}
use Rattle.table_claims.proofs.TablePrintedOnceLaws.{table_not_refused}
use Rattle.text_claims.specs.NumbersApartLaws.{refused_number}
use Rattle.weights_claims.specs.WeightsTexts.{ShiftTextIs}
use Rattle.weights_claims.specs.WeightsProgram.{weights_then_rules}

module _ {s : List ℕ} {x : ℤ} (is : ShiftTextIs s x) (b : nat_abs x ≤ max_shift) (rs : List Rule) (h : ℕ) {rest : List ℕ}
    (t : TextIs (many rule_line ∷ one horizon_line ∷ []) (rule_values rs, ((h, tt), tt)) rest) where
  -- the two programs one behind the other: what the first prints, and the rest of a table text
  abbrev text : List ℕ
  text = printed_bytes (weights_printed s) ++ rest

  pub weights_taken : length text ≤ max_text → (place : ℕ) → printed_bytes (table_printed text) ≡ refused_line (number_of bad_weights) place → ⊥
  weights_taken short place e = go (table_program text)
    where
      by_reason : {n p : ℕ} → TableRefusal text n p → n ≡ (number_of bad_weights) → ⊥
      by_reason (too_long_lem l) q = omega arith
      by_reason (bad_line_lem place l st) q = omega arith
      by_reason (bad_table w rs' h' y is' c o) q =
          let w-is : w ≡ weight_list (weights_of x) = (table_text_once is' (weights_then_rules is b rs h t short)).0 in
          let c' : chain_check (rule_list_of rs') (weight_list (weights_of x)) (report_horizon h') ≡ Err y = rw (← w-is) c in
          chain_never_eight x (weights_of x) (shift_accepted x b) (rule_list_of rs') (report_horizon h') y c' q

      go : TableProgram text (printed_bytes (table_printed text)) → ⊥
      go (refuses n p q r) = by_reason r (refused_number n p (number_of bad_weights) place (sym q ∙ e))
      go (prints w rs' h' f is' m ok q u) = table_not_refused h' f (number_of bad_weights) place (sym q ∙ e)
