-- What one more write took stands behind what was written before it.
use Rattle.std.proofs.Common.{ℕ, ◌+◌, Option, List, rules, take, drop, sym, subst}
use lib.Seq.{take-add}
use Rattle.std.specs.Io.KnownBytes.{Appends}
use Rattle.std.proofs.KnownBytes.{Appends-trans}
use Rattle.output.proofs.written.lines.Goals as goal

grows : (a b c : Option (List ℕ)) (d n : ℕ) (bytes : List ℕ) → Appends a b (take d bytes) → Appends b c (take n (drop d bytes)) → Appends a c (take (d + n) bytes)
grows a b c d n bytes first more = subst (Appends a c) (sym (take-add d n bytes)) (Appends-trans a b c _ _ first more)

pub loop-preserved : goal.loop-preserved
loop-preserved g c = (search rules, grows _ _ _ _ _ _ c.loop.invariant.1 c.in_ok-done.ensures.bytes)
