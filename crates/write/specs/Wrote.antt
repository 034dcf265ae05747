-- What a function that writes into a buffer says of it. Working definition.
use Rattle.std.specs.Prelude.{ℕ, ◌+◌, ◌≤◌, ◌≡◌, List, ◌++◌, length, take, drop}

-- the buffer held `before`; now it has the bytes at i, the rest as it was; they end at r and had room
pub record Wrote (before : List ℕ) (i : ℕ) (after : List ℕ) (r : ℕ) (bytes : List ℕ) : Type 0 where
  pub whole : after ≡ take i before ++ bytes ++ drop (i + length bytes) before
  pub end : r ≡ i + length bytes
  pub fits : r ≤ length before
