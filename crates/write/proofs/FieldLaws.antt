-- The room for a field suffices. Laws; `omega` takes each by its name, for every number whose width it finds.
use Rattle.std.specs.Prelude.{ℕ, ◌^◌, ◌<◌, ◌≤◌, length}
use Rattle.std.proofs.Common.{arith}
use Rattle.decimal.specs.DecimalLaws.{decimal_short_64, decimal_short_32}
use Rattle.write.specs.Field.{field, field_room, short_field}

pub field_room_lem : (n : ℕ) → n < 2 ^ 64 → length (field n) ≤ field_room
unfolding field
field_room_lem n h = omega (arith, decimal_short_64 n h)

pub field_short : (n : ℕ) → n < 2 ^ 32 → length (field n) ≤ short_field
unfolding field
field_short n h = omega (arith, decimal_short_32 n h)
