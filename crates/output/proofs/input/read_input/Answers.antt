-- What one more read gave stands behind what was read before it.
use Rattle.std.proofs.Common.{◌≡◌, ℕ, ◌+◌, Option, List, ◌++◌, rules, take, drop, sym, ap, ◌∙◌, subst}
use lib.Seq.{take-add}
use Rattle.std.specs.Io.KnownBytes.{Consumes}
use Rattle.std.proofs.KnownBytes.{Consumes-trans}
use Rattle.output.proofs.input.read_input.Goals as goal

grows : (a b c : Option (List ℕ)) (d n : ℕ) (old new : List ℕ) → Consumes a b (take d old) → take d new ≡ take d old
    → Consumes b c (take n (drop d new)) → Consumes a c (take (d + n) new)
grows a b c d n old new first same more =
    subst (Consumes a c) (ap (λ l. l ++ take n (drop d new)) (sym same) ∙ sym (take-add d n new)) (Consumes-trans a b c _ _ first more)

pub loop-preserved : goal.loop-preserved
loop-preserved g c =
    (search rules, search rules, grows _ _ _ _ _ _ _ c.loop.invariant.2 c.in_ok-n.ensures.before (search rules))
