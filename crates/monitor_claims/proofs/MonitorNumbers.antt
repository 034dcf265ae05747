-- CLAIMS: by which numbers the texts of the monitor program are refused, and by which none is.
use Rattle.std.specs.Prelude.{ℕ, ◌≡◌, refl, List}
use Rattle.rules.specs.Numbers.{OneOf}
use Rattle.write.specs.Refused.{refused_line}
use Rattle.write.specs.Printed.{printed_bytes}
use Rattle.monitor_report.specs.MonitorReport.{monitor_printed}
use Rattle.text_claims.specs.NumbersApartLaws.{elem, apart, apart_never}
use Rattle.rules.specs.Numbers.{library_numbers}
use Rattle.monitor_claims.specs.MonitorOutput.{monitor_numbers}
use Rattle.monitor_claims.proofs.MonitorNumbersLaws.{monitor_refusals as monitor_refusals_proved}

-- A refusal that the monitor program prints has one of its numbers.
pub monitor_refusals : (s : List ℕ) (n p : ℕ) → printed_bytes (monitor_printed s) ≡ refused_line n p → OneOf monitor_numbers n
monitor_refusals = monitor_refusals_proved

-- A number that library calls alone give is never printed.
pub monitor_never : (s : List ℕ) (n p : ℕ) → OneOf library_numbers n → printed_bytes (monitor_printed s) ≡ refused_line n p → ⊥
unfolding apart elem
monitor_never s n p o e = apart_never library_numbers refl (monitor_refusals s n p e) o
