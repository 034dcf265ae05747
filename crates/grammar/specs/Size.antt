-- TO BELIEVE: the longest text that is read. Definition.
use Rattle.std.specs.Prelude.{ℕ}

-- in bytes
abbrev pub max_text : ℕ
max_text = 65536
