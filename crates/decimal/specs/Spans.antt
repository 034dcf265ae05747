-- Bytes that stand in a text. A working definition.
use Rattle.std.specs.Prelude.{ℕ, ◌+◌, ◌≡◌, List, ◌++◌, length, drop}

-- the bytes stand in the text s from i up to j: from i on it is the bytes, and then what it is from j on
pub record Spans (s : List ℕ) (i : ℕ) (bytes : List ℕ) (j : ℕ) : Type 0 where
  pub text : drop i s ≡ bytes ++ drop j s
  pub end : j ≡ i + length bytes
