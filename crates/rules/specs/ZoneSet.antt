-- TO BELIEVE: a set of zones, written as the sum of 2^zone. Definition.
use Rattle.std.specs.Prelude.{ℕ, ◌/◌, ◌%◌, ◌^◌}

-- 1 if the zone is in the set, else 0
abbrev pub in_zone_set : ℕ → ℕ → ℕ
in_zone_set zones z = zones / 2 ^ z % 2
