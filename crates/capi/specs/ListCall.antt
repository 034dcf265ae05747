-- TO BELIEVE: the version that a caller is told. Definition.
use Rattle.std.specs.Prelude.{ℕ, ◌+◌, ◌*◌}

-- 0.8.0
abbrev pub version : ℕ
version = 10000 * 0 + 100 * 8 + 0
