-- A word at an offset, by whether what stands there begins with it.
use Rattle.std.specs.Prelude.{ℕ, ◌+◌, ◌<◌, ◌≤◌, ◌≡◌, refl, Bool, true, false, cond, List, [], ◌∷◌, length, drop, eqb, Option, None, Some, MatchOption, slice_range, ◌⊎◌}
use Rattle.std.specs.List.{starts_with}
use Rattle.std.proofs.Common.{sym, ap, ◌∙◌, arith, add-zero, length-drop, take_all, Bor}
use lib.ListN.{drop_of_length-le}
use Rattle.std.specs.Option.{unwrap_or}
use Rattle.decimal.specs.Word.{past_word}

turned : (a b : ℕ) (t : Bool) → eqb a b ≡ t → eqb b a ≡ t
turned a b t e = grind arith

-- the offset past the word where the bytes begin with it, else none
past_starts : (w l : List ℕ) (i : ℕ) → past_word w l i ≡ cond (starts_with eqb l w) (Some (i + length w)) None
unfolding past_word
past_starts [] l i = rw (add-zero i) refl
past_starts (a ∷ w) [] i = refl
past_starts (a ∷ w) (b ∷ l) i = one (eqb a b) refl (past_starts w l (i + 1))
  where
    one : (t : Bool) → eqb a b ≡ t → past_word w l (i + 1) ≡ cond (starts_with eqb l w) (Some (i + 1 + length w)) None
        → past_word (a ∷ w) (b ∷ l) i ≡ cond (starts_with eqb (b ∷ l) (a ∷ w)) (Some (i + length (a ∷ w))) None
    one true e more = let n : i + 1 + length w ≡ i + length (a ∷ w) = omega arith in rw (e, turned a b true e, sym n) more
    one false e more = rw (e, turned a b false e) refl

-- the part of a text from an offset on: there is none past the end
abbrev From : List ℕ → ℕ → Option (Bor (List ℕ)) → Type 0
From s at o = MatchOption o ((length s < at) ⊎ (length s < length s)) (λ x. (at ≤ length s) × (length s ≤ length s) × (x.now ≡ slice_range s at (length s)) × (length x.now + at ≡ length s))

rest_is : (s : List ℕ) (at : ℕ) (o : Option (Bor (List ℕ))) (e : Bor (List ℕ)) → e.now ≡ [] → From s at o → (unwrap_or o e).now ≡ drop at s
rest_is s at None e n h = n ∙ sym (drop_of_length-le s (grind arith))
rest_is s at (Some x) e n h = h.2 ∙ take_all _ (drop at s) (omega (arith, length-drop at s))

-- so whether that part, or an empty one, begins with the word decides
module _ (s w : List ℕ) (at : ℕ) (o : Option (Bor (List ℕ))) (e : Bor (List ℕ)) where
  pub past_by : e.now ≡ [] → From s at o → {r : Bor (List ℕ)} → r ≡ unwrap_or o e → {t : Bool} → t ≡ starts_with eqb r.now w
      → cond t (Some (at + length w)) None ≡ past_word w (drop at s) at
  past_by n h {r} is {t} u =
      let rest : r.now ≡ drop at s = ap (λ x. x.now) is ∙ rest_is s at o e n h in
      sym (rw (sym rest, past_starts w r.now at, u) refl)
