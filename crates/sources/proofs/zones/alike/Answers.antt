-- `zones::alike` meets its contract.
use Rattle.std.proofs.Common.{◌≡◌, ℕ, ◌+◌, ◌*◌, get_or, refl, rules}
use borrow.Author.Tests.{tests}
use native.Mathlib.Omega.{arith}
use Rattle.std.proofs.lemmas.Iterator.{cases_from_all, YieldsList-from_range}
use Rattle.rules.specs.Bounds.{zone_count}
use Rattle.sources.specs.AlikeZonesLaws.{alike_if}
use Rattle.sources.proofs.zones.alike.Goals as goal

pub returns : goal.returns
returns c =
    let m = c.args.moves.now in
    let P = λ (s : ℕ). get_or m (zone_count * s + c.args.a) 0 ≡ get_or m (zone_count * s + c.args.b) 0 in
    alike_if _ _ (cases_from_all _ _ _ P (λ s. P s → ⊥) c.all.ensures.ran (YieldsList-from_range 0 c.args.n c.args.n refl (omega arith)) (λ x q k. search (rules, tests)) (λ x q k. search (rules, tests)))
