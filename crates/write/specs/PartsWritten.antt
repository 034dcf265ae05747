-- What holds while a loop writes parts one behind the other. Working definitions.
use Rattle.std.specs.Prelude.{ℕ, zero, suc, ◌+◌, ◌*◌, ◌≤◌, ◌≡◌, List, [], ◌++◌, length}
use Rattle.write.specs.Wrote.{Wrote}

-- the first n parts
unfoldable pub joined : ℕ → (ℕ → List ℕ) → List ℕ
joined zero part = []
joined (suc n) part = joined n part ++ part n

-- the first i of n parts, each of at most `most` bytes, stand in the buffer from `at` on, up to e
pub record PartsWritten (before : List ℕ) (at most n : ℕ) (part : ℕ → List ℕ) (after : List ℕ) (e i : ℕ) : Type 0 where
  pub upto : i ≤ n
  pub size : length after ≡ length before
  pub room : e ≤ at + most * i
  pub wrote : Wrote before at after e (joined i part)
