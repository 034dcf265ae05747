-- CLAIMS: by which numbers the texts of the weights program are refused, and by which none is.
use Rattle.std.specs.Prelude.{ℕ, ◌≡◌, refl, List}
use Rattle.rules.specs.Numbers.{OneOf}
use Rattle.write.specs.Refused.{refused_line}
use Rattle.write.specs.Printed.{printed_bytes}
use Rattle.weights_report.specs.WeightsReport.{weights_printed}
use Rattle.text_claims.specs.NumbersApartLaws.{elem, apart, apart_never}
use Rattle.rules.specs.Numbers.{library_numbers}
use Rattle.weights_claims.specs.WeightsTexts.{weights_numbers}
use Rattle.weights_claims.specs.WeightsNumbersLaws.{weights_refusals as weights_refusals_proved}

-- A refusal that the weights program prints has one of its numbers.
pub weights_refusals : (s : List ℕ) (n p : ℕ) → printed_bytes (weights_printed s) ≡ refused_line n p → OneOf weights_numbers n
weights_refusals = weights_refusals_proved

-- A number that library calls alone give is never printed.
pub weights_never : (s : List ℕ) (n p : ℕ) → OneOf library_numbers n → printed_bytes (weights_printed s) ≡ refused_line n p → ⊥
unfolding apart elem
weights_never s n p o e = apart_never library_numbers refl (weights_refusals s n p e) o
