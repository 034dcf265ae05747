-- CLAIM: the weights program's line, with rules and a horizon behind it, is never refused by 8 by the table program.
use Rattle.std.specs.Prelude.{ℕ, ◌≤◌, ◌≡◌, List, [], ◌∷◌, ◌++◌, ℤ, nat_abs, length}
use Rattle.rules.specs.declared.Rule.{Rule}
use Rattle.rules.specs.Refusal.{number_of, bad_weights}
use Rattle.shift.specs.Shift.{max_shift}
use Rattle.grammar.specs.Grammar.{one, many, TextIs}
use Rattle.grammar.specs.Size.{max_text}
use Rattle.table_text.specs.TableGrammar.{horizon_line}
use Rattle.rule_lines.specs.Rules.{rule_line, rule_values}
use Rattle.write.specs.Refused.{refused_line}
use Rattle.write.specs.Printed.{printed_bytes}
use Rattle.table_report.specs.TableReport.{table_printed}
use Rattle.weights_report.specs.WeightsReport.{weights_printed}
use Rattle.weights_claims.specs.WeightsTexts.{ShiftTextIs}
use Rattle.weights_claims.specs.WeightsTakenLaws.{weights_taken as weights_taken_proved}

module _ {s : List ℕ} {x : ℤ} (is : ShiftTextIs s x) (b : nat_abs x ≤ max_shift) (rs : List Rule) (h : ℕ) {rest : List ℕ}
    (t : TextIs (many rule_line ∷ one horizon_line ∷ []) (rule_values rs, ((h, tt), tt)) rest) where
  -- the two programs one behind the other: what the first prints, and the rest of a table text
  abbrev pub text : List ℕ
  text = printed_bytes (weights_printed s) ++ rest

  pub weights_taken : length text ≤ max_text → (place : ℕ) → printed_bytes (table_printed text) ≡ refused_line (number_of bad_weights) place → ⊥
  weights_taken = weights_taken_proved is b rs h t
