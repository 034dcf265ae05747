-- `parse_run` meets its contract. The invariant: the lines counted, and what is left to read.
use Prim.Native.Nat.{◌-◌}
use lib.ListN.{length}
use Rattle.text.specs.LineRead.{fields_of}
use Rattle.text.specs.RunLaws.{RunUpTo}
use Rattle.text.proofs.runs.parse_run.Given as goal

abbrev pub invariant-loop-line : goal.invariant-loop-line
invariant-loop-line l = RunUpTo l.word (fields_of l.letters) l.field l.bound l.text l.at l.count l.below l.i

abbrev pub decreases-loop-line : goal.decreases-loop-line
decreases-loop-line l = length l.text - l.i
