-- TO BELIEVE: the number of zones, the largest number, and the bounds of a rule list, each written here once. Definitions.
use Rattle.std.specs.Prelude.{ℕ, ◌-◌, ◌^◌}

-- zones are the numbers below it
abbrev pub zone_count : ℕ
zone_count = 8

-- the largest number of 32 bits: the largest that a text can say, and the largest count
abbrev pub max_number : ℕ
max_number = 2 ^ 32 - 1

-- a list has this many rules
abbrev pub min_rules : ℕ
min_rules = 1

abbrev pub max_rules : ℕ
max_rules = 8

-- a rule's m
abbrev pub min_window : ℕ
min_window = 1

abbrev pub max_window : ℕ
max_window = 9

-- a rule's k is at least this, and at most its m
abbrev pub min_hits : ℕ
min_hits = 1

-- a rule's zone set: at least one zone, at most all of them
abbrev pub min_zone_set : ℕ
min_zone_set = 1

abbrev pub max_zone_set : ℕ
max_zone_set = 2 ^ zone_count - 1

-- the most states (document 01's standings) of a rule list that a table is made for
abbrev pub max_states : ℕ
max_states = 1024
