-- Laws of words: a word is found where its bytes stand, and nowhere else.
use Rattle.std.specs.Prelude.{ℕ, ◌+◌, ◌≡◌, refl, Bool, true, false, cond, List, [], ◌∷◌, ◌++◌, length, get_or, drop, eqb, None, Some}
use Rattle.std.proofs.Common.{sym, ap, ◌∙◌, arith, add-zero, drop-drop, eqb-true, eq-eqb}
use Rattle.decimal.specs.Word.{past_word, word_at}
use Rattle.decimal.specs.Spans.{Spans}
use Rattle.decimal.specs.SpansLaws.{first_byte}

begins : (w l : List ℕ) (i j : ℕ) → past_word w l i ≡ Some j → (l ≡ w ++ drop (length w) l) × (j ≡ i + length w)
unfolding past_word
begins [] l i j e = (refl, let q : i ≡ j = cc in omega arith)
begins (a ∷ w) [] i j e = let z : ◌≡◌ {A = ℕ} 0 1 = cc in absurd (omega arith)
begins (a ∷ w) (b ∷ l) i j e = go (eqb b a) refl e (begins w l (i + 1) j)
  where
    go : (t : Bool) → eqb b a ≡ t → cond t (past_word w l (i + 1)) None ≡ Some j
        → (past_word w l (i + 1) ≡ Some j → (l ≡ w ++ drop (length w) l) × (j ≡ i + 1 + length w))
        → (b ∷ l ≡ (a ∷ w) ++ drop (length (a ∷ w)) (b ∷ l)) × (j ≡ i + length (a ∷ w))
    go true q p ih =
        let h = ih p in
        let g : b ≡ a = eqb-true b a q in
        (rw g (ap (λ (m : List ℕ). a ∷ m) h.0), omega (arith, h.1))
    go false q p ih = let z : ◌≡◌ {A = ℕ} 0 1 = cc in absurd (omega arith)

passes : (w r : List ℕ) (i : ℕ) → past_word w (w ++ r) i ≡ Some (i + length w)
unfolding past_word
passes [] r i = ap Some (sym (add-zero i))
passes (a ∷ w) r i = rw (eq-eqb a a refl) (passes w r (i + 1) ∙ ap Some (omega arith))

pub word_spans : (w s : List ℕ) (i j : ℕ) → word_at w s i ≡ Some j → Spans s i w j
word_spans w s i j e =
    let h = begins w (drop i s) i j e in
    record { text = h.0 ∙ ap (λ (l : List ℕ). w ++ l) (drop-drop (length w) i s ∙ ap (λ (n : ℕ). drop n s) (sym h.1)); end = h.1 }

pub word_read : {s : List ℕ} {i j : ℕ} (w : List ℕ) → Spans s i w j → word_at w s i ≡ Some j
word_read {s} {i} {j} w u = rw u.text (passes w (drop j s) i ∙ ap Some (sym u.end))

-- a word that begins with another byte does not stand there
pub word_absent : (s : List ℕ) (i a b : ℕ) (w : List ℕ) → get_or s i 0 ≡ b → eqb b a ≡ false → word_at (a ∷ w) s i ≡ None
unfolding past_word
word_absent s i a b w e n = go (drop i s) refl
  where
    go : (l : List ℕ) → drop i s ≡ l → past_word (a ∷ w) l i ≡ None
    go [] q = refl
    go (c ∷ l) q = let f : c ≡ b = sym (first_byte s i q) ∙ e in rw (f, n)
