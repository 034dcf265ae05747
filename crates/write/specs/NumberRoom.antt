-- The room that a number in decimal needs. Working definitions.
use Rattle.std.specs.Prelude.{ℕ}

-- the most digits of a number of 64 bits: 2 ^ 64 is between 10 ^ 19 and 10 ^ 20
abbrev pub number_room : ℕ
number_room = 20

-- and of one of 32 bits: 2 ^ 32 is between 10 ^ 9 and 10 ^ 10
abbrev pub short_room : ℕ
short_room = 10
