-- The code of a report's answer, case by case, by the number and the place of what refused it. Laws.
use Rattle.std.specs.Prelude.{◌≡◌, List, ℕ, set, Err, Ok, Result}
use Rattle.std.proofs.Common.{sym, ap, ◌∙◌}
use Rattle.rules.specs.Check.{checked}
use Rattle.codes.specs.Codes.{check_code_by, code_by}
use Rattle.call_arrays.specs.ReportArrays.{answer_count}

module _ {R : Type 0} (number place : R → ℕ) (a : Result ℕ R) where
  pub written_code : (n : ℕ) (count : List ℕ) → a ≡ Ok n → (0 ≡ check_code_by number place (checked a)) × (set count 0 n ≡ answer_count a count)
  written_code n count e = (sym (ap (λ (x : Result ℕ R). check_code_by number place (checked x)) e), sym (ap (λ (x : Result ℕ R). answer_count x count) e))

  pub refused_code : (x : R) (r : ℕ) (count : List ℕ) → a ≡ Err x → r ≡ code_by (number x) (place x)
      → (r ≡ check_code_by number place (checked a)) × (count ≡ answer_count a count)
  refused_code x r count e c =
      (c ∙ sym (ap (λ (y : Result ℕ R). check_code_by number place (checked y)) e), sym (ap (λ (y : Result ℕ R). answer_count y count) e))
