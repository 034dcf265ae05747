-- The lines of contents: they are unique, and what comes next is told by its kind. Laws.
use Rattle.std.specs.Prelude.{◌≡◌, refl, List, [], ◌∷◌, ◌++◌, ℕ, ℤ, pos, negsuc}
use Rattle.std.proofs.Common.{sym, ap, inl, inr}
use Rattle.std.proofs.Math.Option.{Option, none as nothing, some}
use Rattle.grammar.specs.LineValues.{Field, number, signed, Value, Values}
use Rattle.grammar.specs.Form.{Kind, named, Says, Saying, Form, line, either, Said, saying}
use Rattle.grammar.specs.Grammar.{once, often, perhaps, Grammar, Contents, many_lines, any_line, lines_of, Begun}
use Rattle.grammar.specs.Clear.{word_number, Other, Apart, Plain, NotFirst, Ordered}
use Rattle.grammar.proofs.LinesLaws.{same_head, same_tail, no_cons}

-- ---- every grammar has contents

some_value : (f : Field) → Value f
some_value number = 0
some_value signed = pos 0

some_values : (fs : List Field) → Values fs
some_values [] = tt
some_values (f ∷ fs) = (some_value f, some_values fs)

some_told : (k : Kind) → Says k
some_told (named w fs) = some_values fs

some_said : (f : Form) → Said f
some_said (line k) = some_told k
some_said (either f g) = inl (some_said f)

some_contents : (g : Grammar) → Contents g
some_contents [] = tt
some_contents (once f ∷ g) = (some_said f, some_contents g)
some_contents (often f ∷ g) = ([], some_contents g)
some_contents (perhaps f ∷ g) = (nothing, some_contents g)

pub begun_nothing : (g : Grammar) → Begun g []
begun_nothing g = record { contents = some_contents g; behind = lines_of g (some_contents g); lines = refl }

-- ---- forms

-- the number of a kind's word
abbrev word_of_kind : Kind → ℕ
word_of_kind (named w fs) = word_number w

other_apart : (k j : Kind) → Other k j → k ≡ j → ⊥
other_apart (named w fs) (named v gs) o e = o (ap word_of_kind e)

pub saying_apart : (f g : Form) → Apart f g → (x : Said f) (y : Said g) → saying f x ≡ saying g y → ⊥
unfolding saying
saying_apart (line k) (line j) a x y e = other_apart k j a (ap (λ (m : Saying). m.0) e)
saying_apart (line k) (either f g) a x (inl y) e = saying_apart (line k) f a.0 x y e
saying_apart (line k) (either f g) a x (inr y) e = saying_apart (line k) g a.1 x y e
saying_apart (either f h) g a (inl x) y e = saying_apart f g a.0 x y e
saying_apart (either f h) g a (inr x) y e = saying_apart h g a.1 x y e

-- values in their order; a number as a signed one
values : (fs : List Field) → Values fs → List ℤ
values [] x = []
values (number ∷ fs) x = pos x.0 ∷ values fs x.1
values (signed ∷ fs) x = x.0 ∷ values fs x.1

natural : ℤ → ℕ
natural (pos n) = n
natural (negsuc n) = 0

values_once : (fs : List Field) (x y : Values fs) → values fs x ≡ values fs y → x ≡ y
unfolding values natural
values_once [] x y e = refl
values_once (number ∷ fs) x y e =
    let h : x.0 ≡ y.0 = ap natural (same_head e) in
    let t = values_once fs x.1 y.1 (same_tail e) in
    λ i. (h i, t i)
values_once (signed ∷ fs) x y e =
    let h : x.0 ≡ y.0 = same_head e in
    let t = values_once fs x.1 y.1 (same_tail e) in
    λ i. (h i, t i)

values_for : (k : Kind) → Says k → List ℤ
values_for (named w fs) x = values fs x

told_once : (k : Kind) (x y : Says k) → ◌≡◌ {A = Saying} (k, x) (k, y) → x ≡ y
unfolding values_for
told_once (named w fs) x y e = values_once fs x y (ap (λ (m : Saying). values_for m.0 m.1) e)

saying_once : (f : Form) → Plain f → (x y : Said f) → saying f x ≡ saying f y → x ≡ y
unfolding saying
saying_once (line k) p x y e = told_once k x y e
saying_once (either f g) p (inl x) (inl y) e = ap inl (saying_once f p.1 x y e)
saying_once (either f g) p (inl x) (inr y) e = absurd (saying_apart f g p.0 x y e)
saying_once (either f g) p (inr x) (inl y) e = absurd (saying_apart f g p.0 y x (sym e))
saying_once (either f g) p (inr x) (inr y) e = ap inr (saying_once g p.2 x y e)

-- ---- contents

pub not_first : (f : Form) (g : Grammar) → NotFirst f g → (x : Said f) (c : Contents g) {ms : List Saying}
    → lines_of g c ≡ saying f x ∷ ms → ⊥
unfolding lines_of many_lines any_line
not_first f [] k x c e = no_cons e
not_first f (once h ∷ g) k x c e = saying_apart f h k x c.0 (sym (same_head e))
not_first f (often h ∷ g) k x c {ms} e = go c.0 e (not_first f g k.1 x c.1)
  where
    go : (ys : List (Said h)) → many_lines h ys ++ lines_of g c.1 ≡ saying f x ∷ ms
        → (lines_of g c.1 ≡ saying f x ∷ ms → ⊥) → ⊥
    go [] e r = r e
    go (y ∷ ys) e r = saying_apart f h k.0 x y (sym (same_head e))
not_first f (perhaps h ∷ g) k x c {ms} e = go c.0 e (not_first f g k.1 x c.1)
  where
    go : (o : Option (Said h)) → any_line h o ++ lines_of g c.1 ≡ saying f x ∷ ms
        → (lines_of g c.1 ≡ saying f x ∷ ms → ⊥) → ⊥
    go nothing e r = r e
    go (some y) e r = saying_apart f h k.0 x y (sym (same_head e))

any_same : (f : Form) (g : Grammar) → Plain f → NotFirst f g → (o p : Option (Said f)) (c d : Contents g)
    → any_line f o ++ lines_of g c ≡ any_line f p ++ lines_of g d → (o ≡ p) × (lines_of g c ≡ lines_of g d)
unfolding any_line
any_same f g p k nothing nothing c d e = (refl, e)
any_same f g p k nothing (some y) c d e = absurd (not_first f g k y c e)
any_same f g p k (some x) nothing c d e = absurd (not_first f g k x d (sym e))
any_same f g p k (some x) (some y) c d e = (ap some (saying_once f p x y (same_head e)), same_tail e)

many_same : (f : Form) (g : Grammar) → Plain f → NotFirst f g → (xs ys : List (Said f)) (c d : Contents g)
    → many_lines f xs ++ lines_of g c ≡ many_lines f ys ++ lines_of g d → (xs ≡ ys) × (lines_of g c ≡ lines_of g d)
unfolding many_lines
many_same f g p k [] [] c d e = (refl, e)
many_same f g p k [] (y ∷ ys) c d e = absurd (not_first f g k y c e)
many_same f g p k (x ∷ xs) [] c d e = absurd (not_first f g k x d (sym e))
many_same f g p k (x ∷ xs) (y ∷ ys) c d e =
    let q = saying_once f p x y (same_head e) in
    let r = many_same f g p k xs ys c d (same_tail e) in
    (λ i. q i ∷ r.0 i, r.1)

-- the lines tell the contents
pub contents_same : (g : Grammar) → Ordered g → (c d : Contents g) → lines_of g c ≡ lines_of g d → c ≡ d
unfolding lines_of
contents_same [] k c d e = refl
contents_same (once f ∷ g) k c d e =
    let q = saying_once f k.0 c.0 d.0 (same_head e) in
    let r = contents_same g k.1 c.1 d.1 (same_tail e) in
    λ i. (q i, r i)
contents_same (often f ∷ g) k c d e =
    let q = many_same f g k.0 k.1 c.0 d.0 c.1 d.1 e in
    let r = contents_same g k.2 c.1 d.1 q.1 in
    λ i. (q.0 i, r i)
contents_same (perhaps f ∷ g) k c d e =
    let q = any_same f g k.0 k.1 c.0 d.0 c.1 d.1 e in
    let r = contents_same g k.2 c.1 d.1 q.1 in
    λ i. (q.0 i, r i)
