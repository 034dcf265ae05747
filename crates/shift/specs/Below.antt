-- The area below a limit, as a number that is never below 0. Working definition.
use Rattle.std.specs.Prelude.{ℕ, ◌+◌, ◌-◌, ◌^◌, cond, ltb}
use Rattle.shift.specs.Area.{area_at, last_area}

-- 2^29 more than the area from 0 to i - 450 hundredths
unfoldable pub below_of : ℕ → ℕ
below_of i = cond (ltb i last_area) (2 ^ 29 - area_at (last_area - i)) (2 ^ 29 + area_at (i - last_area))
