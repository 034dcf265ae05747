-- TO BELIEVE: what is read of a line, and of bytes: 17, 16 at the line where they stop being a text, or the contents. Definitions.
use Rattle.std.specs.Prelude.{ℕ, ◌≤◌, ◌<◌, List, length}
use Rattle.grammar.specs.Size.{max_text}
use Rattle.grammar.specs.Grammar.{Grammar, Contents, TextIs, Stops}

-- what a line of a form says, with the offset behind it; or another line
pub data Seen (A : Type 0) : Type 0 where
  found : A → ℕ → Seen A
  other : Seen A

-- the contents; or the line where the text stops being one; or a text that is too long
pub data Reading (A : Type 0) : Type 0 where
  read : A → Reading A
  stopped : ℕ → Reading A
  long : Reading A

-- and where each is so
pub data ReadingIs (g : Grammar) (s : List ℕ) : Reading (Contents g) → Type 0 where
  too_long_lem : max_text < length s → ReadingIs g s long
  wrong : {n : ℕ} → length s ≤ max_text → Stops g s n → ReadingIs g s (stopped n)
  right : {c : Contents g} → length s ≤ max_text → TextIs g c s → ReadingIs g s (read c)
