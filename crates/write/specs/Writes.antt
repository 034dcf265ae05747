-- What a writer has room for, and what is said of it once more was written. Working definitions.
use Rattle.std.specs.Prelude.{ℕ, ◌+◌, ◌≤◌, ◌≡◌, List, length}
use Rattle.write.specs.Wrote.{Wrote}
use Rattle.write.specs.declared.writer.Writer.{Writer}

-- its buffer has so many bytes more behind its place
abbrev pub HasRoom : Writer → ℕ → Type 0
HasRoom w n = w.at + n ≤ length w.out.now

-- it went on by so many bytes at most
abbrev pub AtMost : Writer → ℕ → Writer → Type 0
AtMost before n after = after.at ≤ before.at + n

-- the bytes stand in its buffer from its place on, the rest is as before, and its place is behind them
pub record Writes (before : Writer) (bytes : List ℕ) (after : Writer) : Type 0 where
  pub same_buffer : after.out.ghost_name ≡ before.out.ghost_name
  pub same_size : length after.out.now ≡ length before.out.now
  pub wrote : Wrote before.out.now before.at after.out.now after.at bytes
