-- TO BELIEVE: words of the text: the separators, and what stands at an offset. Definitions.
use Rattle.std.specs.Prelude.{ℕ, ◌+◌, cond, List, [], ◌∷◌, drop, eqb, None, Option, Some}

-- `,`
abbrev pub comma : List ℕ
comma = 44 ∷ []

-- LF
abbrev pub newline : List ℕ
newline = 10 ∷ []

-- the offset past the word, where the bytes l, which stand at the offset i, begin with it
unfoldable pub past_word : List ℕ → List ℕ → ℕ → Option ℕ
past_word [] l i = Some i
past_word (a ∷ w) [] i = None
past_word (a ∷ w) (b ∷ l) i = cond (eqb b a) (past_word w l (i + 1)) None

-- the same at an offset of a text
abbrev pub word_at : List ℕ → List ℕ → ℕ → Option ℕ
word_at w s i = past_word w (drop i s) i

-- what follows a word, or else
abbrev pub on_found : {A : Type 0} → Option ℕ → (ℕ → A) → A → A
on_found (Some i) f other = f i
on_found None f other = other
