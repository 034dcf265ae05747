-- Lines one behind the other: their bytes tell them, one way only. Laws.
use Rattle.std.specs.Prelude.{ℕ, suc, ◌≡◌, length}
use Rattle.std.proofs.Math.Path.{refl, sym, ap}
use Rattle.std.proofs.Common.{ap₂, ◌∙◌, arith}
use mathlib.Core.List.{List, [], ◌∷◌, ◌++◌, append_assoc, tail, head_d}
use Rattle.grammar.specs.Newlines.{newlines}
use Rattle.grammar.specs.NewlineLaws.{newlines_append}
use Rattle.grammar.specs.Form.{Kind, Saying, bytes_said}
use Rattle.grammar.specs.Grammar.{bytes_of_all, AllFit}
use Rattle.grammar.specs.Told.{Told}
use Rattle.grammar.proofs.FormLaws.{same_line, same_rest, one_newline}
use Rattle.grammar.proofs.ToldLaws.{AllIn, also, told_agree, told_proper}

-- ---- the first of a list, and the others

module _ {A : Type 0} {x y : A} {xs ys : List A} (e : x ∷ xs ≡ y ∷ ys) where
  pub same_head : x ≡ y
  unfolding head_d
  same_head = ap (λ (l : List A). head_d l x) e

  pub same_tail : xs ≡ ys
  same_tail = ap tail e

pub no_cons : {A : Type 0} {x : A} {xs : List A} → [] ≡ x ∷ xs → ⊥
no_cons {A} {x} {xs} e = let z : 0 ≡ suc (length xs) = ap length e in omega arith

-- ---- bytes

pub bytes_append : (ls ms : List Saying) → bytes_of_all (ls ++ ms) ≡ bytes_of_all ls ++ bytes_of_all ms
unfolding bytes_of_all
bytes_append [] ms = refl
bytes_append (l ∷ ls) ms = ap (λ (t : List ℕ). bytes_said l ++ t) (bytes_append ls ms)
    ∙ sym (append_assoc (bytes_said l) (bytes_of_all ls) (bytes_of_all ms))

pub fit_append : (ls ms : List Saying) → AllFit ls → AllFit ms → AllFit (ls ++ ms)
unfolding AllFit
fit_append [] ms i j = j
fit_append (l ∷ ls) ms i j = (i.0, fit_append ls ms i.1 j)

pub fit_split : (ls ms : List Saying) → AllFit (ls ++ ms) → AllFit ls × AllFit ms
unfolding AllFit
fit_split [] ms i = (tt, i)
fit_split (l ∷ ls) ms i = let r = fit_split ls ms i.1 in ((i.0, r.0), r.1)

-- as many LFs as lines
pub newlines_all : (ks : List Kind) → Told ks ks → (ms : List Saying) → AllIn ks ms → AllFit ms
    → newlines (bytes_of_all ms) ≡ length ms
unfolding newlines bytes_of_all AllFit
newlines_all ks t [] a i = refl
newlines_all ks t (m ∷ ms) (also h a) i =
    omega (
      arith,
      newlines_append (bytes_said m) (bytes_of_all ms),
      one_newline m.0 m.1 (told_proper m.0 ks ks h t) i.0,
      newlines_all ks t ms a i.1,
    )

-- two lists of lines that stand in the same bytes: one goes on where the other ends
pub data Onward (ls ms : List Saying) (a b : List ℕ) : Type 0 where
  longer : (ds : List Saying) → AllFit ds → ms ≡ ls ++ ds → a ≡ bytes_of_all ds ++ b → Onward ls ms a b
  shorter : (ds : List Saying) → AllFit ds → ls ≡ ms ++ ds → b ≡ bytes_of_all ds ++ a → Onward ls ms a b

both_more : {ls ms : List Saying} {a b : List ℕ} {l m : Saying} → l ≡ m → Onward ls ms a b
    → Onward (l ∷ ls) (m ∷ ms) a b
both_more q (longer ds i e h) = longer ds i (ap₂ (λ (x : Saying) (xs : List Saying). x ∷ xs) (sym q) e) h
both_more q (shorter ds i e h) = shorter ds i (ap₂ (λ (x : Saying) (xs : List Saying). x ∷ xs) q e) h

module _ (ks : List Kind) (t : Told ks ks) where
  pub onward : (ls ms : List Saying) (a b : List ℕ) → AllIn ks ls → AllIn ks ms → AllFit ls → AllFit ms
      → bytes_of_all ls ++ a ≡ bytes_of_all ms ++ b → Onward ls ms a b
  unfolding bytes_of_all AllFit
  onward [] ms a b h o i j e = longer ms j refl e
  onward (l ∷ ls) [] a b h o i j e = shorter (l ∷ ls) i refl (sym e)
  onward (l ∷ ls) (m ∷ ms) a b (also h hs) (also o os) i j e =
      let xs = bytes_of_all ls ++ a in
      let ys = bytes_of_all ms ++ b in
      let e' : bytes_said l ++ xs ≡ bytes_said m ++ ys = sym (append_assoc (bytes_said l) (bytes_of_all ls) a) ∙ e
      ∙ append_assoc (bytes_said m) (bytes_of_all ms) b in
      let q : l ≡ m = same_line l.0 m.0 l.1 m.1 xs ys (told_agree l.0 m.0 ks ks h o t)
      (told_proper l.0 ks ks h t) (told_proper m.0 ks ks o t) i.0 j.0 e' in
      let r : xs ≡ ys = same_rest (bytes_said l) xs ys (e' ∙ ap (λ (k : Saying). bytes_said k ++ ys) (sym q)) in
      both_more q (onward ls ms a b hs os i.1 j.1 r)
