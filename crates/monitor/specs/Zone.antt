-- TO BELIEVE: the zone of a reading. Definitions.
use Rattle.std.specs.Prelude.{ℕ, zero, suc, ◌*◌, cond, leb, ℤ, pos, negsuc, ◌-ℤ◌, Err, Ok, Result}
use Rattle.rules.specs.declared.refusal.Refusal.{Refusal}
use Rattle.rules.specs.Check.{within}
use Rattle.rules.specs.Refusal.{bad_sigma}

-- document 01's bounds of the step d
abbrev pub min_sigma : ℕ
min_sigma = 1

abbrev pub max_sigma : ℕ
max_sigma = 65535

-- document 01's zones by number: S is outside the outer limits, 1 to 3 are above the centre, 4 to 6 below it, C0 is on it
abbrev pub zone_s : ℕ
zone_s = 0

abbrev pub zone_a1 : ℕ
zone_a1 = 1

abbrev pub zone_b1 : ℕ
zone_b1 = 2

abbrev pub zone_c1 : ℕ
zone_c1 = 3

abbrev pub zone_c2 : ℕ
zone_c2 = 4

abbrev pub zone_b2 : ℕ
zone_b2 = 5

abbrev pub zone_a2 : ℕ
zone_a2 = 6

abbrev pub zone_c0 : ℕ
zone_c0 = 7

-- the band of a distance from the centre: up to one sigma, up to two, up to three, or over three; a limit belongs to the inner band
abbrev pub band : ℕ → ℕ → ℕ → ℕ → ℕ → ℕ
band sigma distance one two three =
    cond (leb distance sigma) one (cond (leb distance (2 * sigma)) two (cond (leb distance (3 * sigma)) three zone_s))

-- by the offset t from the centre: 0 is C0; t > 0 is C1, B1, A1 or S; t < 0 is C2, B2, A2 or S (`negsuc n` is -(n + 1))
abbrev pub zone_at : ℤ → ℕ → ℕ
zone_at (pos zero) sigma = zone_c0
zone_at (pos (suc n)) sigma = band sigma (suc n) zone_c1 zone_b1 zone_a1
zone_at (negsuc n) sigma = band sigma (suc n) zone_c2 zone_b2 zone_a2

-- 1 where sigma is out of bounds, else the zone at t = reading - centre, exact over the integers
unfoldable pub zone_of : ℤ → ℤ → ℕ → Result ℕ Refusal
zone_of reading centre sigma = cond (within min_sigma max_sigma sigma) (Ok (zone_at (reading -ℤ centre) sigma)) (Err bad_sigma)
