-- Laws of writing: one byte, nothing, one writing behind another, and what stands in the buffer afterwards.
use Rattle.std.specs.Prelude.{ℕ, ◌+◌, ◌<◌, ◌≤◌, ◌≡◌, refl, List, [], ◌∷◌, ◌++◌, length, get_or, take, drop, set}
use Rattle.std.proofs.Common.{sym, ap, ◌∙◌, append_assoc, append-nil, arith, add-zero, add-one, length-append, length-drop, take-append-drop, take-suc, take_all, take_at, drop_at, drop-drop, length-take-le}
use Rattle.std.proofs.lemmas.List.{set_split}
use Rattle.std.proofs.Math.Seq.{append_snoc}
use Rattle.write.specs.Wrote.{Wrote}

pub wrote_nothing : (a : List ℕ) (i : ℕ) → i ≤ length a → Wrote a i a i []
wrote_nothing a i h = record { whole = rw (append-nil, add-zero, take-append-drop); end = omega arith; fits = h }

pub wrote_byte : (a : List ℕ) (i b : ℕ) → i < length a → Wrote a i (set a i b) (i + 1) (b ∷ [])
wrote_byte a i b h = record { whole = set_split a i b h ∙ rw (append_snoc, add-one); end = refl; fits = omega arith }

-- the front, up to where the bytes end, and what is behind it
module _ {a : List ℕ} {i : ℕ} {b : List ℕ} {r : ℕ} {bytes : List ℕ} (u : Wrote a i b r bytes) where
  front_length : length (take i a ++ bytes) ≡ r
  front_length = rw (length-append, length-take-le i a (omega arith)) (sym u.end)

  wrote_front : take r b ≡ take i a ++ bytes
  wrote_front = rw u.whole (take_at _ _ r front_length)

  wrote_behind : drop r b ≡ drop r a
  wrote_behind = rw (u.whole, drop_at _ _ r front_length, u.end)

  pub wrote_length : length b ≡ length a
  wrote_length =
      let e = simp (length-append, length-drop) at (ap length u.whole) in
      omega (arith, e, length-take-le i a (omega arith))

-- one writing behind another is one writing
pub then : {a b c : List ℕ} {i j k : ℕ} {xs ys : List ℕ} → Wrote a i b j xs → Wrote b j c k ys → Wrote a i c k (xs ++ ys)
then {a} {b} {c} {i} {j} {k} {xs} {ys} u v =
    let l = length-append xs ys in
    let n : i + length (xs ++ ys) ≡ j + length ys = omega arith in
    let t : drop (j + length ys) b ≡ drop (j + length ys) a =
    sym (drop-drop (length ys) j b) ∙ ap (drop (length ys)) (wrote_behind u) ∙ drop-drop (length ys) j a in
    let w = wrote_length u in
    record { whole = v.whole ∙ rw (wrote_front u, t, n, append_assoc (take i a) xs ys); end = omega arith; fits = omega arith }

-- ---- byte by byte

pub wrote_next : (a : List ℕ) (i : ℕ) (o w : List ℕ) (j : ℕ) → Wrote a i o (i + j) (take j w) → j < length w → i + j < length o
    → Wrote a i (set o (i + j) (get_or w j 0)) (i + (j + 1)) (take (j + 1) w)
wrote_next a i o w j u l h =
    let e : i + (j + 1) ≡ i + j + 1 = omega arith in
    let q : take (j + 1) w ≡ take j w ++ (get_or w j 0 ∷ []) = rw (add-one, take-suc w j 0 l) in
    rw (e, q) (then u (wrote_byte o (i + j) (get_or w j 0) h))

pub wrote_all : (a : List ℕ) (i : ℕ) (o w : List ℕ) (j : ℕ) → Wrote a i o (i + j) (take j w) → length w ≤ j → Wrote a i o (i + j) w
wrote_all a i o w j u l = rw (take_all j w l) at u
