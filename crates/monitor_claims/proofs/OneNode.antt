-- CLAIM: a text with the points of one node alone prints exactly that node's lines.
use Rattle.std.specs.Prelude.{ℕ, ◌≡◌, List, ℤ}
use Rattle.std.proofs.Common.{sym, ap, ◌∙◌}
use Rattle.rules.specs.declared.Rule.{Rule}
use Rattle.monitor_text.specs.Readings.{NodeReading, readings_of}
use Rattle.write.specs.Printed.{printed_bytes}
use Rattle.monitor_report.specs.MonitorReport.{monitor_printed}
use Rattle.monitor_claims.specs.MonitorTexts.{MonitorTextIs}
use Rattle.monitor_claims.specs.NodeLines.{node_lines, with_ends}
use Rattle.monitor_claims.specs.MonitorOutput.{NotRefused}
use Rattle.monitor_claims.proofs.IsolationLaws.{accepted_prints}
use Rattle.monitor_claims.proofs.Isolation.{isolation}
use Rattle.monitor_claims.specs.NodeLines.{OnlyNode}
use Rattle.monitor_claims.proofs.OneNodeLaws.{only_lines}

-- Two texts that are both accepted and have the same opening lines, the second with the points of one node alone, and that node's readings the same in
-- both: the second prints exactly the lines that the first prints for that node.
pub one_node : {s s' : List ℕ} {centre : ℤ} {sigma : ℕ} {rs : List Rule} {ps ps' : List NodeReading} → NotRefused s → NotRefused s'
    → MonitorTextIs s centre sigma rs ps → MonitorTextIs s' centre sigma rs ps' → (k : ℕ) → OnlyNode k ps' → readings_of k ps ≡ readings_of k ps'
    → printed_bytes (monitor_printed s') ≡ with_ends (node_lines k (printed_bytes (monitor_printed s)))
one_node {s} {s'} {centre} {sigma} {rs} {ps} {ps'} a a' is is' k o e =
    let lines = (accepted_prints a' is').1.lines in
    let own : with_ends (node_lines k (printed_bytes (monitor_printed s'))) ≡ printed_bytes (monitor_printed s') = rw lines (only_lines rs centre sigma k ps' o) in
    sym own ∙ ap with_ends (sym (isolation a a' is is' k e))
