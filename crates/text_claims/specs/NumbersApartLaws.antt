-- When none of one list of numbers is among another; and the number of a refusal's line. Laws.
use Rattle.std.specs.Prelude.{ℕ, ◌≡◌, refl, Bool, true, false, cond, List, [], ◌∷◌, eqb}
use Rattle.std.proofs.Common.{sym, ◌∙◌, append-nil, arith, eq-eqb}
use Rattle.rules.specs.Numbers.{OneOf, here, there}
use Rattle.write.specs.Refused.{refused_line}
use Rattle.text_claims.specs.LineOnceLaws.{refused_once}

-- whether n is among the numbers, and whether none of the first is among the second
unfoldable pub elem : ℕ → List ℕ → Bool
elem n [] = false
elem n (m ∷ ms) = cond (eqb n m) true (elem n ms)

unfoldable pub apart : List ℕ → List ℕ → Bool
apart [] ms = true
apart (n ∷ ns) ms = cond (elem n ms) false (apart ns ms)

elem_true : {n : ℕ} {ms : List ℕ} → OneOf ms n → elem n ms ≡ true
unfolding elem
elem_true {n} (here {n = m} e) = rw (eq-eqb n m e)
elem_true {n} (there {n = m} o) = go (eqb n m) (elem_true o)
  where
    go : (b : Bool) {x : Bool} → x ≡ true → cond b true x ≡ true
    go true e = refl
    go false e = e

pub apart_never : {n : ℕ} {ns : List ℕ} (ms : List ℕ) → apart ns ms ≡ true → OneOf ns n → OneOf ms n → ⊥
unfolding apart
apart_never {n} ms a (here {n = m} {x} {ns} e) o =
    let q : elem m ms ≡ true = rw e at (elem_true o) in
    let r = rw q at a in
    let z : ◌≡◌ {A = ℕ} 0 1 = cc in
    omega arith
apart_never {n} ms a (there {n = m} {x} {ns} p) o = apart_never ms (go (elem m ms) a) p o
  where
    go : (b : Bool) → cond b false (apart ns ms) ≡ true → apart ns ms ≡ true
    go true e = let z : ◌≡◌ {A = ℕ} 0 1 = cc in absurd (omega arith)
    go false e = e

-- a refusal's line determines its number and its place
pub refused_line_once : (n p n' p' : ℕ) → refused_line n p ≡ refused_line n' p' → (n ≡ n') × (p ≡ p')
refused_line_once n p n' p' e =
    let o = refused_once {xs = []} {ys = []} n p n' p' (append-nil (refused_line n p) ∙ e ∙ sym (append-nil (refused_line n' p'))) in
    (o.0, o.1)

pub refused_number : (n p n' p' : ℕ) → refused_line n p ≡ refused_line n' p' → n ≡ n'
refused_number n p n' p' e = (refused_line_once n p n' p' e).0
