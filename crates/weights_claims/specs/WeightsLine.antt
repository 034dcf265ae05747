-- CLAIM: a table text whose weights line has another number of weights than there are zones is refused by 16 at line 1; so
-- one with seven is.
use Rattle.std.specs.Prelude.{ℕ, ◌≤◌, ◌≡◌, List, ◌++◌, length}
use Rattle.std.proofs.Common.{arith}
use Rattle.rules.specs.Bounds.{zone_count}
use Rattle.rules.specs.Refusal.{number_of, bad_line}
use Rattle.grammar.specs.Size.{max_text}
use Rattle.write.specs.Refused.{refused_line}
use Rattle.write.specs.Printed.{printed_bytes}
use Rattle.table_report.specs.TableReport.{table_printed}
use Rattle.weights_claims.specs.WeightsTexts.{weights_bytes}
use Rattle.weights_claims.specs.WeightsLineLaws.{weights_counted as weights_counted_proved}

module _ (ws rest : List ℕ) (other : length ws ≡ zone_count → ⊥) where
  -- The text begins with a weights line of some other number of weights: it is refused by 16, and the place is line 1.
  pub weights_counted : length (weights_bytes ws ++ rest) ≤ max_text
      → printed_bytes (table_printed (weights_bytes ws ++ rest)) ≡ refused_line (number_of (bad_line 1)) 1
  weights_counted = weights_counted_proved ws rest other

-- So a text with seven weights is.
pub seven_weights : (ws rest : List ℕ) → length ws ≡ 7 → length (weights_bytes ws ++ rest) ≤ max_text
    → printed_bytes (table_printed (weights_bytes ws ++ rest)) ≡ refused_line (number_of (bad_line 1)) 1
seven_weights ws rest seven = weights_counted ws rest (λ e. omega arith)
