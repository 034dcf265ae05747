-- `read_rules` meets its contract. The invariant: the rules held, and what is left to read.
use Prim.Native.Nat.{◌-◌}
use lib.ListN.{length}
use Rattle.rule_lines.specs.RuleTurnLaws.{HoldsRules}
use Rattle.rule_lines.proofs.rule_lines.read_rules.Given as goal

abbrev pub invariant-loop-k : goal.invariant-loop-k
invariant-loop-k l = HoldsRules l.text l.at l.list l.i

abbrev pub decreases-loop-k : goal.decreases-loop-k
decreases-loop-k l = length l.text - l.i
