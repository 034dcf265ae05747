-- TO BELIEVE: what a whole text is, and at which line bytes stop being one. Nothing here reads. Definitions.
use Rattle.std.specs.Prelude.{ℕ, ◌+◌, ◌≡◌, List, [], ◌∷◌, ◌++◌, length}
use Rattle.std.proofs.Math.Option.{Option, none, some}
use Rattle.grammar.specs.Form.{Kind, Saying, bytes_said, Fits, Form, line, either, Said, saying}

-- one line of the form; lines of the form, any number of them; or one such line or none
pub data Block : Type 0 where
  once often perhaps : Form → Block

abbrev pub one : Kind → Block
one k = once (line k)

abbrev pub many : Kind → Block
many k = often (line k)

abbrev pub one_of : Kind → Kind → Block
one_of k j = once (either (line k) (line j))

abbrev pub at_most_one : Kind → Block
at_most_one k = perhaps (line k)

-- a text is its blocks, one behind the other, and nothing else
abbrev pub Grammar : Type 0
Grammar = List Block

-- ---- what a text of the grammar holds, and the lines that say it, in their order

abbrev pub Held : Block → Type 0
Held (once f) = Said f
Held (often f) = List (Said f)
Held (perhaps f) = Option (Said f)

abbrev pub Contents : Grammar → Type 0
Contents [] = Unit {0}
Contents (b ∷ g) = Held b × Contents g

unfoldable pub many_lines : (f : Form) → List (Said f) → List Saying
many_lines f [] = []
many_lines f (x ∷ xs) = saying f x ∷ many_lines f xs

unfoldable pub any_line : (f : Form) → Option (Said f) → List Saying
any_line f none = []
any_line f (some x) = saying f x ∷ []

unfoldable pub lines_of : (g : Grammar) → Contents g → List Saying
lines_of [] c = []
lines_of (once f ∷ g) c = saying f c.0 ∷ lines_of g c.1
lines_of (often f ∷ g) c = many_lines f c.0 ++ lines_of g c.1
lines_of (perhaps f ∷ g) c = any_line f c.0 ++ lines_of g c.1

-- the bytes of lines, one behind the other
unfoldable pub bytes_of_all : List Saying → List ℕ
bytes_of_all [] = []
bytes_of_all (m ∷ ms) = bytes_said m ++ bytes_of_all ms

unfoldable pub AllFit : List Saying → Type 0
AllFit [] = Unit {0}
AllFit (m ∷ ms) = Fits m × AllFit ms

-- ---- (1) the bytes s are the text of these contents: their lines, one behind the other, every number within 32 bits

pub record TextIs (g : Grammar) (c : Contents g) (s : List ℕ) : Type 0 where
  pub bytes : s ≡ bytes_of_all (lines_of g c)
  pub fit : AllFit (lines_of g c)

-- ---- (2) the bytes s stop being a text at line n, from 1

-- these lines are the first of some contents
pub record Begun (g : Grammar) (ms : List Saying) : Type 0 where
  pub contents : Contents g
  pub behind : List Saying
  pub lines : lines_of g contents ≡ ms ++ behind

-- behind the lines of `front` the line n is none that can come next, whether it is another, cannot be read or has no LF; or it is missing, and
-- the text does not end there
pub record Stops (g : Grammar) (s : List ℕ) (n : ℕ) : Type 0 where
  pub front : List Saying
  pub rest : List ℕ
  pub bytes : s ≡ bytes_of_all front ++ rest
  pub fit : AllFit front
  pub place : n ≡ 1 + length front
  pub begun : Begun g front
  pub next : (m : Saying) → Fits m → Begun g (front ++ (m ∷ [])) → (behind : List ℕ) → rest ≡ bytes_said m ++ behind → ⊥
  pub end : rest ≡ [] → (c : Contents g) → lines_of g c ≡ front → ⊥
