-- The number of each reason for which a shift text is refused. Laws.
use Rattle.std.specs.Prelude.{ℕ, ◌≡◌, refl, List}
use Rattle.std.proofs.Common.{sym, ◌∙◌}
use Rattle.rules.specs.Numbers.{OneOf, here, there}
use Rattle.write.specs.Refused.{refused_line}
use Rattle.write.specs.Printed.{printed_bytes}
use Rattle.weights_report.specs.WeightsReport.{weights_printed}
use Rattle.weights_claims.specs.WeightsTexts.{WeightsRefusal, WeightsProgram, bad_shift_lem}
use Rattle.weights_claims.specs.WeightsTexts.{refuses as weights-refuse, prints as weights-print, too_long_lem as weights-too-long, bad_line_lem as weights-bad-line}
use Rattle.weights_claims.specs.WeightsProgram.{weights_program}
use Rattle.weights_claims.specs.WeightsProgramLaws.{weights_not_refused}
use Rattle.text_claims.specs.NumbersApartLaws.{refused_number}
use Rattle.weights_claims.specs.WeightsTexts.{weights_numbers}

weights_numbers_lem : {s : List ℕ} {n p : ℕ} → WeightsRefusal s n p → OneOf weights_numbers n
weights_numbers_lem (weights-too-long l) = here refl
weights_numbers_lem (weights-bad-line place l st) = there (here refl)
weights_numbers_lem (bad_shift_lem x is o) = there (there (here refl))

-- A refusal that the weights program prints has one of its numbers.
pub weights_refusals : (s : List ℕ) (n p : ℕ) → printed_bytes (weights_printed s) ≡ refused_line n p → OneOf weights_numbers n
weights_refusals s n p e = go (weights_program s)
  where
    go : WeightsProgram s (printed_bytes (weights_printed s)) → OneOf weights_numbers n
    go (weights-refuse number place q r) = rw (refused_number n p number place (sym e ∙ q)) (weights_numbers_lem r)
    go (weights-print x is b q t) = absurd (weights_not_refused _ n p (sym q ∙ e))
