-- The number of each reason for which a monitor text is refused. Laws.
use Rattle.std.specs.Prelude.{ℕ, ◌≡◌, refl, List}
use Rattle.std.proofs.Common.{sym, ◌∙◌}
use Rattle.rules.specs.Numbers.{OneOf, here, there}
use Rattle.write.specs.Refused.{refused_line}
use Rattle.write.specs.Printed.{printed_bytes}
use Rattle.monitor_report.specs.MonitorReport.{monitor_printed}
use Rattle.monitor_claims.specs.MonitorOutput.{refuses, prints, too_long_lem, bad_line_lem}
use Rattle.monitor_claims.specs.MonitorOutput.{MonitorRefusal, MonitorProgram, bad_node_lem, bad_rules, bad_sigma_lem}
use Rattle.monitor_claims.proofs.MonitorProgram.{monitor_program}
use Rattle.monitor_claims.proofs.MonitorPrintedOnceLaws.{bench_not_refused}
use Rattle.text_claims.specs.NumbersApartLaws.{refused_number}
use Rattle.monitor_claims.specs.MonitorOutput.{monitor_numbers}

monitor_numbers_lem : {s : List ℕ} {n p : ℕ} → MonitorRefusal s n p → OneOf monitor_numbers n
monitor_numbers_lem (too_long_lem l) = here refl
monitor_numbers_lem (bad_line_lem place l st) = there (here refl)
monitor_numbers_lem (bad_node_lem c d rs place o) = there (there (here refl))
monitor_numbers_lem (bad_rules c d rs ps x is o q r) = there (there (there (there r)))
monitor_numbers_lem (bad_sigma_lem c d rs ps is o ok b) = there (there (there (here refl)))

-- A refusal that the monitor program prints has one of its numbers.
pub monitor_refusals : (s : List ℕ) (n p : ℕ) → printed_bytes (monitor_printed s) ≡ refused_line n p → OneOf monitor_numbers n
monitor_refusals s n p e = go (monitor_program s)
  where
    go : MonitorProgram s (printed_bytes (monitor_printed s)) → OneOf monitor_numbers n
    go (refuses number place q r) = rw (refused_number n p number place (sym e ∙ q)) (monitor_numbers_lem r)
    go (prints c d rs ps is o ok b t) = absurd (bench_not_refused rs c d ps n p (sym t.lines ∙ e))
