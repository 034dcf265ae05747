-- TO BELIEVE: the grammars that can be read from front to end, a line's kind alone telling what it is: a condition of the claims of every grammar,
-- which each program's grammar meets. Definitions.
use Rattle.std.specs.Prelude.{ℕ, ◌+◌, ◌*◌, ◌≡◌, Bool, true, false, cond, List, [], ◌∷◌, ◌++◌, eqb, ltb}
use Rattle.grammar.specs.LineValues.{Field, number, signed}
use Rattle.grammar.specs.Form.{Kind, named, Form, line, either}
use Rattle.grammar.specs.Grammar.{once, often, perhaps, Grammar}

-- ---- words and fields as numbers, which tell them

abbrev pub word_number : List ℕ → ℕ
word_number [] = 0
word_number (b ∷ w) = b + 256 * word_number w

abbrev pub fields_number : List Field → ℕ
fields_number [] = 0
fields_number (number ∷ fs) = 1 + 3 * fields_number fs
fields_number (signed ∷ fs) = 2 + 3 * fields_number fs

-- ---- no two kinds of a grammar have lines of the same bytes

-- a keyword is of small letters
abbrev pub letters : List ℕ → Bool
letters [] = true
letters (b ∷ w) = cond (ltb 96 b) (cond (ltb b 123) (letters w) false) false

abbrev pub proper : Kind → Bool
proper (named w fs) = letters w

-- and has the same fields wherever it stands
abbrev pub agree : Kind → Kind → Bool
agree (named w fs) (named v gs) = cond (eqb (word_number w) (word_number v)) (eqb (fields_number fs) (fields_number gs)) true

abbrev pub agree_all : Kind → List Kind → Bool
agree_all k [] = true
agree_all k (j ∷ js) = cond (agree k j) (agree_all k js) false

abbrev pub told : List Kind → List Kind → Bool
told [] js = true
told (k ∷ ks) js = cond (proper k) (cond (agree_all k js) (told ks js) false) false

abbrev pub kinds_in : Form → List Kind
kinds_in (line k) = k ∷ []
kinds_in (either f g) = kinds_in f ++ kinds_in g

abbrev pub kinds_of : Grammar → List Kind
kinds_of [] = []
kinds_of (once f ∷ g) = kinds_in f ++ kinds_of g
kinds_of (often f ∷ g) = kinds_in f ++ kinds_of g
kinds_of (perhaps f ∷ g) = kinds_in f ++ kinds_of g

-- ---- a line's kind tells its place

abbrev pub Other : Kind → Kind → Type 0
Other (named w fs) (named v gs) = word_number w ≡ word_number v → ⊥

-- no line is of both forms
abbrev pub Apart : Form → Form → Type 0
Apart (line k) (line j) = Other k j
Apart (line k) (either f g) = Apart (line k) f × Apart (line k) g
Apart (either e f) g = Apart e g × Apart f g

-- no line is of two forms of a choice
abbrev pub Plain : Form → Type 0
Plain (line k) = Unit {0}
Plain (either f g) = Apart f g × Plain f × Plain g

-- no line of the form can come first
abbrev pub NotFirst : Form → Grammar → Type 0
NotFirst f [] = Unit {0}
NotFirst f (once e ∷ g) = Apart f e
NotFirst f (often e ∷ g) = Apart f e × NotFirst f g
NotFirst f (perhaps e ∷ g) = Apart f e × NotFirst f g

abbrev pub Ordered : Grammar → Type 0
Ordered [] = Unit {0}
Ordered (once f ∷ g) = Plain f × Ordered g
Ordered (often f ∷ g) = Plain f × NotFirst f g × Ordered g
Ordered (perhaps f ∷ g) = Plain f × NotFirst f g × Ordered g

abbrev pub Clear : Grammar → Type 0
Clear g = Ordered g × (told (kinds_of g) (kinds_of g) ≡ true)
