-- Laws of the zones of a list of readings.
use Rattle.std.specs.Prelude.{ℕ, ◌<◌, ◌≡◌, refl, List, [], ◌∷◌, ◌++◌, ℤ, ◌-ℤ◌, length}
use Rattle.std.proofs.Common.{ap, arith}
use Rattle.rules.specs.Bounds.{zone_count}
use Rattle.runlength.specs.Sequence.{AllBelow}
use Rattle.monitor.specs.Zone.{zone_at}
use Rattle.monitor.specs.ZoneLaws.{zone_exists}
use Rattle.monitor.specs.Zones.{zones_of}

pub zones_exist : (centre : ℤ) (sigma : ℕ) (xs : List ℤ) → AllBelow zone_count (zones_of centre sigma xs)
unfolding zones_of AllBelow
zones_exist centre sigma [] = tt
zones_exist centre sigma (x ∷ xs) = (zone_exists (x -ℤ centre) sigma, zones_exist centre sigma xs)

pub zones_length : (centre : ℤ) (sigma : ℕ) (xs : List ℤ) → length (zones_of centre sigma xs) ≡ length xs
unfolding zones_of
zones_length centre sigma [] = refl
zones_length centre sigma (x ∷ xs) = omega (arith, zones_length centre sigma xs)

-- the zone of numbers that are equal to these
pub zone_given : {x x' centre centre' : ℤ} → x' ≡ x → centre' ≡ centre → (sigma : ℕ) → zone_at (x' -ℤ centre') sigma ≡ zone_at (x -ℤ centre) sigma
zone_given ex ec sigma = rw (ex, ec)

pub zones_append : (centre : ℤ) (sigma : ℕ) (xs ys : List ℤ) → zones_of centre sigma (xs ++ ys) ≡ zones_of centre sigma xs ++ zones_of centre sigma ys
unfolding zones_of
zones_append centre sigma [] ys = refl
zones_append centre sigma (x ∷ xs) ys = ap (λ (l : List ℕ). zone_at (x -ℤ centre) sigma ∷ l) (zones_append centre sigma xs ys)

pub zone_below : {z : ℕ} (x centre : ℤ) (sigma : ℕ) → z ≡ zone_at (x -ℤ centre) sigma → z < zone_count
zone_below x centre sigma e = omega (arith, e, zone_exists (x -ℤ centre) sigma)
