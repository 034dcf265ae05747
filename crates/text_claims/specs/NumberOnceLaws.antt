-- Numbers read back from printed bytes, of any size: a number in decimal, and what is behind it, are determined by the bytes. Laws.
use Rattle.std.specs.Prelude.{ℕ, zero, suc, ◌+◌, ◌-◌, ◌*◌, ◌/◌, ◌%◌, ◌≤◌, ◌<◌, ◌≡◌, refl, Bool, true, false, cond, List, [], ◌∷◌, ◌++◌, ltb, eqb, length, get_or, drop}
use Rattle.std.proofs.Common.{sym, ap, ◌∙◌, append_assoc, append-nil, arith, le_refl, le-leb, ltb-true, ltb-false}
use Rattle.std.proofs.Math.Seq.{append_snoc, drop-append_seam}
use Rattle.std.proofs.lemmas.Bool.{eqb-false}
use Rattle.rules.specs.Check.{within}
use Rattle.decimal.specs.Decimal.{digit_byte, decimal}
use Rattle.decimal.specs.DecimalLaws.{decimal_one, decimal_more}
use Rattle.decimal.specs.Fields.{field, fields}

-- the number that the digits at the front give, behind those that gave v; and what is behind them
unfoldable value_from : ℕ → List ℕ → ℕ
value_from v [] = v
value_from v (b ∷ bytes) = cond (within 48 57 b) (value_from (v * 10 + (b - 48)) bytes) v

unfoldable past_digits : List ℕ → List ℕ
past_digits [] = []
past_digits (b ∷ bytes) = cond (within 48 57 b) (past_digits bytes) (b ∷ bytes)

-- one digit
digit_in : (d : ℕ) → d < 10 → within 48 57 (digit_byte d) ≡ true
digit_in d h = rw (le-leb 48 (digit_byte d) (omega arith), le-leb (digit_byte d) 57 (omega arith))

value_digit : (v d n : ℕ) (rest : List ℕ) → d < 10 → v * 10 + d ≡ n → value_from v (digit_byte d ∷ rest) ≡ value_from n rest
unfolding value_from
value_digit v d n rest h e =
    let m : v * 10 + (digit_byte d - 48) ≡ n = omega arith in
    rw (digit_in d h, m)

past_digit : (d : ℕ) (rest : List ℕ) → d < 10 → past_digits (digit_byte d ∷ rest) ≡ past_digits rest
unfolding past_digits
past_digit d rest h = rw (digit_in d h)

-- all the digits of n
record Read (n : ℕ) (rest : List ℕ) : Type 0 where
  value : value_from 0 (decimal n ++ rest) ≡ value_from n rest
  past : past_digits (decimal n ++ rest) ≡ past_digits rest

one_digit : (n : ℕ) (rest : List ℕ) → n < 10 → Read n rest
one_digit n rest l =
    record { value = rw (decimal_one n l) (value_digit 0 n n rest l (omega arith)); past = rw (decimal_one n l) (past_digit n rest l) }

decimal_read : (k n : ℕ) → n ≤ k → (rest : List ℕ) → Read n rest
decimal_read zero n h rest = one_digit n rest (omega arith)
decimal_read (suc k) n h rest = go (ltb n 10) refl (decimal_read k (n / 10) (omega arith) (digit_byte (n % 10) ∷ rest))
  where
    go : (b : Bool) → ltb n 10 ≡ b → Read (n / 10) (digit_byte (n % 10) ∷ rest) → Read n rest
    go true e r = one_digit n rest (ltb-true n 10 e)
    go false e r =
        let l = ltb-false n 10 e in
        record {
          value = rw (decimal_more n l, append_snoc) (r.value ∙ value_digit (n / 10) (n % 10) n rest (omega arith) (omega arith));
          past = rw (decimal_more n l, append_snoc) (r.past ∙ past_digit (n % 10) rest (omega arith));
        }

-- bytes at which a number ends: none, or one that is no digit
pub data Ends : List ℕ → Type 0 where
  end : Ends []
  comma : {bytes : List ℕ} → Ends (44 ∷ bytes)
  newline : {bytes : List ℕ} → Ends (10 ∷ bytes)

value_ends : (n : ℕ) {xs : List ℕ} → Ends xs → value_from n xs ≡ n
unfolding value_from
value_ends n end = refl
value_ends n comma = refl
value_ends n newline = refl

past_ends : {xs : List ℕ} → Ends xs → past_digits xs ≡ xs
unfolding past_digits
past_ends end = refl
past_ends comma = refl
past_ends newline = refl

-- A number's bytes, and where they end, determine it and what is behind it.
pub number_once : (m n : ℕ) {xs ys : List ℕ} → Ends xs → Ends ys → decimal m ++ xs ≡ decimal n ++ ys → (m ≡ n) × (xs ≡ ys)
number_once m n {xs} {ys} i j e =
    let r = decimal_read m m (le_refl m) xs in
    let s = decimal_read n n (le_refl n) ys in (
      sym (value_ends m i) ∙ sym r.value ∙ ap (value_from 0) e ∙ s.value ∙ value_ends n j,
      sym (past_ends i) ∙ sym r.past ∙ ap past_digits e ∙ s.past ∙ past_ends j,
    )

pub decimal_once : (m n : ℕ) → decimal m ≡ decimal n → m ≡ n
decimal_once m n e = (number_once m n end end (append-nil (decimal m) ∙ e ∙ sym (append-nil (decimal n)))).0

-- other bytes do not begin a number
pub not_number : (n : ℕ) {b : ℕ} {xs ys : List ℕ} → Ends xs → within 48 57 b ≡ false → eqb b 44 ≡ false → eqb b 10 ≡ false → decimal n ++ xs ≡ b ∷ ys → ⊥
unfolding past_digits
not_number n {b} {xs} {ys} i o p q e =
    let r = decimal_read n n (le_refl n) xs in
    let f : xs ≡ b ∷ ys = sym (past_ends i) ∙ sym r.past ∙ ap past_digits e ∙ rw o in
    other i f
  where
    other : {zs : List ℕ} → Ends zs → zs ≡ b ∷ ys → ⊥
    other end f = let z : ◌≡◌ {A = ℕ} 0 1 = cc in omega arith
    other comma f = let g : 44 ≡ b = ap (λ l. get_or l 0 0) f in eqb-false b 44 p (sym g)
    other newline f = let g : 10 ≡ b = ap (λ l. get_or l 0 0) f in eqb-false b 10 q (sym g)

-- ---- fields

-- what is behind a common front
pub behind_once : (xs : List ℕ) {ys zs : List ℕ} → xs ++ ys ≡ xs ++ zs → ys ≡ zs
behind_once xs {ys} {zs} e = sym (drop-append_seam xs ys) ∙ ap (drop (length xs)) e ∙ drop-append_seam xs zs

-- the fields up to an LF
fields_ends : (ns xs : List ℕ) → Ends (fields ns ++ (10 ∷ xs))
unfolding fields field
fields_ends [] xs = newline
fields_ends (n ∷ ns) xs = comma

-- The fields up to the end of a line determine the numbers, and how many there are, and what is behind the line.
pub fields_once : (ns ms xs ys : List ℕ) → fields ns ++ (10 ∷ xs) ≡ fields ms ++ (10 ∷ ys) → (ns ≡ ms) × (xs ≡ ys)
unfolding fields field
fields_once [] [] xs ys e = (refl, cc)
fields_once [] (m ∷ ms) xs ys e = let z : ◌≡◌ {A = ℕ} 10 44 = ap (λ l. get_or l 0 0) e in absurd (omega arith)
fields_once (n ∷ ns) [] xs ys e = let z : ◌≡◌ {A = ℕ} 44 10 = ap (λ l. get_or l 0 0) e in absurd (omega arith)
fields_once (n ∷ ns) (m ∷ ms) xs ys e =
    let f : decimal n ++ (fields ns ++ (10 ∷ xs)) ≡ decimal m ++ (fields ms ++ (10 ∷ ys)) =
    sym (append_assoc (decimal n) (fields ns) (10 ∷ xs)) ∙ ap (drop 1) e ∙ append_assoc (decimal m) (fields ms) (10 ∷ ys) in
    let o = number_once n m (fields_ends ns xs) (fields_ends ms ys) f in
    let r = fields_once ns ms xs ys o.1 in
    (rw o.0 (ap (λ (l : List ℕ). m ∷ l) r.0), r.1)
