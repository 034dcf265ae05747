-- The lines of contents are of the grammar's kinds, and these agree. Laws.
use Rattle.std.specs.Prelude.{ℕ, ◌≡◌, Bool, true, cond, eqb, ltb, List, [], ◌∷◌, ◌++◌}
use Rattle.std.proofs.Common.{sym, ap, ◌∙◌, eq-eqb, eqb-true, ltb-true, inl, inr}
use Rattle.std.proofs.Math.Option.{Option, none, some}
use Rattle.rules.specs.TestLaws.{both}
use Rattle.grammar.specs.Form.{Kind, named, Saying, Form, line, either, Said, saying}
use Rattle.grammar.specs.Grammar.{once, often, perhaps, Grammar, Contents, many_lines, any_line, lines_of}
use Rattle.grammar.specs.Clear.{word_number, fields_number, letters, proper, agree, agree_all, kinds_in, kinds_of}
use Rattle.grammar.specs.Told.{Letters, Proper, Agree, Told}

pub data In (k : Kind) : List Kind → Type 0 where
  first : {ks : List Kind} → In k (k ∷ ks)
  later : {j : Kind} {ks : List Kind} → In k ks → In k (j ∷ ks)

letters_are : (w : List ℕ) → letters w ≡ true → Letters w
letters_are [] e = tt
letters_are (b ∷ w) e =
    let p = both (ltb 96 b) _ e in
    let q = both (ltb b 123) _ p.1 in
    (ltb-true 96 b p.0, ltb-true b 123 q.0, letters_are w q.1)

proper_is : (k : Kind) → proper k ≡ true → Proper k
proper_is (named w fs) e = letters_are w e

agree_is : (k j : Kind) → agree k j ≡ true → Agree k j
agree_is (named w fs) (named v gs) e = λ h.
    eqb-true _ _
    (sym (ap (λ (b : Bool). cond b (eqb (fields_number fs) (fields_number gs)) true) (eq-eqb (word_number w) (word_number v) h)) ∙ e)

agree_all_lem : (k j : Kind) (js : List Kind) → In j js → agree_all k js ≡ true → Agree k j
agree_all_lem k j [] h a = elim h [ ]
agree_all_lem k j (i ∷ js) first a = agree_is k j (both (agree k j) _ a).0
agree_all_lem k j (i ∷ js) (later h) a = agree_all_lem k j js h (both (agree k i) _ a).1

pub told_agree : (k j : Kind) (ks js : List Kind) → In k ks → In j js → Told ks js → Agree k j
told_agree k j [] js o h t = elim o [ ]
told_agree k j (i ∷ ks) js first h t = agree_all_lem k j js h (both (agree_all k js) _ (both (proper k) _ t).1).0
told_agree k j (i ∷ ks) js (later o) h t = told_agree k j ks js o h (both (agree_all i js) _ (both (proper i) _ t).1).1

pub told_proper : (k : Kind) (ks js : List Kind) → In k ks → Told ks js → Proper k
told_proper k [] js h t = elim h [ ]
told_proper k (i ∷ ks) js first t = proper_is k (both (proper k) _ t).0
told_proper k (i ∷ ks) js (later h) t = told_proper k ks js h (both (agree_all i js) _ (both (proper i) _ t).1).1

in_left : {k : Kind} {ks : List Kind} (js : List Kind) → In k ks → In k (ks ++ js)
in_left js first = first
in_left js (later i) = later (in_left js i)

in_right : {k : Kind} (ks : List Kind) {js : List Kind} → In k js → In k (ks ++ js)
in_right [] i = i
in_right (j ∷ ks) i = later (in_right ks i)

-- all lines are of these kinds
pub data AllIn (ks : List Kind) : List Saying → Type 0 where
  nothing : AllIn ks []
  also : {m : Saying} {ms : List Saying} → In m.0 ks → AllIn ks ms → AllIn ks (m ∷ ms)

all_append : {ks : List Kind} {ls ms : List Saying} → AllIn ks ls → AllIn ks ms → AllIn ks (ls ++ ms)
all_append nothing j = j
all_append (also i r) j = also i (all_append r j)

pub all_front : {ks : List Kind} (ls ms : List Saying) → AllIn ks (ls ++ ms) → AllIn ks ls
all_front [] ms a = nothing
all_front (l ∷ ls) ms (also i r) = also i (all_front ls ms r)

all_right : (ks : List Kind) {js : List Kind} {ms : List Saying} → AllIn js ms → AllIn (ks ++ js) ms
all_right ks nothing = nothing
all_right ks (also i r) = also (in_right ks i) (all_right ks r)

saying_in : (f : Form) (x : Said f) → In (saying f x).0 (kinds_in f)
unfolding saying
saying_in (line k) x = first
saying_in (either f g) (inl x) = in_left (kinds_in g) (saying_in f x)
saying_in (either f g) (inr x) = in_right (kinds_in f) (saying_in g x)

many_in : (f : Form) (js : List Kind) (xs : List (Said f)) → AllIn (kinds_in f ++ js) (many_lines f xs)
unfolding many_lines
many_in f js [] = nothing
many_in f js (x ∷ xs) = also (in_left js (saying_in f x)) (many_in f js xs)

pub lines_in_lem : (g : Grammar) (c : Contents g) → AllIn (kinds_of g) (lines_of g c)
unfolding lines_of any_line
lines_in_lem [] c = nothing
lines_in_lem (once f ∷ g) c =
    also (in_left (kinds_of g) (saying_in f c.0)) (all_right (kinds_in f) (lines_in_lem g c.1))
lines_in_lem (often f ∷ g) c = all_append (many_in f (kinds_of g) c.0) (all_right (kinds_in f) (lines_in_lem g c.1))
lines_in_lem (perhaps f ∷ g) c = go c.0 (all_right (kinds_in f) (lines_in_lem g c.1))
  where
    go : (o : Option (Said f)) → AllIn (kinds_in f ++ kinds_of g) (lines_of g c.1)
        → AllIn (kinds_in f ++ kinds_of g) (any_line f o ++ lines_of g c.1)
    go none r = r
    go (some x) r = also (in_left (kinds_of g) (saying_in f x)) r
