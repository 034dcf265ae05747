-- The room for a field of a line. Working definitions; the field itself is the text format's.
use Rattle.std.specs.Prelude.{ℕ, ◌+◌, length}
use Rattle.write.specs.NumberRoom.{number_room, short_room}
use Rattle.decimal.specs.Word.{comma}
unfoldable pub use Rattle.decimal.specs.Fields.{field}

-- the most bytes that a comma and a number have
abbrev pub field_room : ℕ
field_room = length comma + number_room

-- the same of a number of 32 bits
abbrev pub short_field : ℕ
short_field = length comma + short_room
