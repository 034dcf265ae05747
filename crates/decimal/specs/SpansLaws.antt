-- Laws of bytes that stand in a text.
use Rattle.std.specs.Prelude.{ℕ, zero, suc, ◌+◌, ◌<◌, ◌≤◌, ◌≡◌, refl, List, [], ◌∷◌, ◌++◌, length, get_or, drop}
use Rattle.std.proofs.Common.{sym, ap, ◌∙◌, append_assoc, arith, add-one, length-append, length-drop, drop-cons, drop-drop, get_or-drop}
use Rattle.std.proofs.Math.Seq.{drop-append_seam}
use Rattle.decimal.specs.Spans.{Spans}

pub drop_here : (s : List ℕ) (i : ℕ) → i < length s → drop i s ≡ get_or s i 0 ∷ drop (i + 1) s
drop_here s i h = rw (add-one, drop-cons s i 0 h)

-- a byte other than 0 stands within the text
pub inside : (s : List ℕ) (i : ℕ) → 0 < get_or s i 0 → i < length s
inside [] i h = omega arith
inside (a ∷ l) zero h = omega arith
inside (a ∷ l) (suc i) h = let r = inside l i h in omega arith

-- the first byte from i on, and what is behind it
module _ (s : List ℕ) (i : ℕ) {b : ℕ} {l : List ℕ} (e : drop i s ≡ b ∷ l) where
  pub first_byte : get_or s i 0 ≡ b
  first_byte = let n : i + 0 ≡ i = omega arith in ap (λ (m : ℕ). get_or s m 0) (sym n) ∙ sym (get_or-drop i s 0 0) ∙ ap (λ (m : List ℕ). get_or m 0 0) e

  pub next_bytes : drop (i + 1) s ≡ l
  next_bytes = sym (drop-drop 1 i s) ∙ ap (drop 1) e

-- the same bytes, one behind the other
pub spans_then : {s : List ℕ} {i j k : ℕ} {xs ys : List ℕ} → Spans s i xs j → Spans s j ys k → Spans s i (xs ++ ys) k
spans_then {s} {i} {j} {k} {xs} {ys} u v =
    record { text = u.text ∙ ap (λ (l : List ℕ). xs ++ l) v.text ∙ sym (append_assoc xs ys (drop k s)); end = omega (arith, length-append xs ys, u.end, v.end) }

-- and apart again
module _ {s : List ℕ} {i k : ℕ} (xs ys : List ℕ) (u : Spans s i (xs ++ ys) k) where
  whole : drop i s ≡ xs ++ (ys ++ drop k s)
  whole = u.text ∙ append_assoc xs ys (drop k s)

  rest : drop (i + length xs) s ≡ ys ++ drop k s
  rest = sym (drop-drop (length xs) i s) ∙ ap (drop (length xs)) whole ∙ drop-append_seam xs (ys ++ drop k s)

  pub spans_front : Spans s i xs (i + length xs)
  spans_front = record { text = rw rest whole; end = refl }

  pub spans_back : Spans s (i + length xs) ys k
  spans_back = record { text = rest; end = omega (arith, length-append xs ys, u.end) }

pub spans_byte : (s : List ℕ) (i b : ℕ) → get_or s i 0 ≡ b → 0 < b → Spans s i (b ∷ []) (i + 1)
spans_byte s i b e h = record { text = drop_here s i (inside s i (omega arith)) ∙ rw e; end = refl }

pub spans_first : {s : List ℕ} {i b j : ℕ} {l : List ℕ} → Spans s i (b ∷ l) j → get_or s i 0 ≡ b
spans_first {s} {i} u = first_byte s i u.text

-- bytes that are not none end within the text
pub spans_within : {s : List ℕ} {i j : ℕ} (bytes : List ℕ) → 0 < length bytes → Spans s i bytes j → j ≤ length s
spans_within {s} {i} {j} bytes p u =
    let e = ap length u.text in
    omega (arith, simp (length-drop, length-append) at e, u.end)
