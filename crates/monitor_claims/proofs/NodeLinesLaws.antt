-- Laws of printed lines: where one ends, which node it is of, and the node put after its first word.
use Rattle.std.specs.Prelude.{ℕ, zero, suc, ◌+◌, ◌/◌, ◌%◌, ◌≡◌, Bool, List, [], ◌∷◌, ◌++◌, eqb}
use Rattle.std.proofs.Math.Path.{refl}
use Rattle.std.proofs.Common.{sym, ap, ◌∙◌, append_assoc, append-nil, arith, eq-eqb, ne_eqb, eqb-true}
use Rattle.std.proofs.Math.Bool.{true, false, cond}
use Rattle.decimal.specs.Decimal.{digit_byte, digits_of, decimal}
use Rattle.decimal.specs.Fields.{field, fields}
use Rattle.decimal.specs.FieldsLaws.{fields_snoc}
use Rattle.grammar.specs.Newlines.{newlines}
use Rattle.grammar.specs.NewlineLaws.{newlines_append, newlines_fields}
use Rattle.text_claims.specs.NumberOnceLaws.{decimal_once}
use Rattle.monitor_claims.specs.NodeLines.{lines_in, before_comma, behind_comma, same_bytes, of_node}
use Rattle.monitor_claims.specs.NodeLines.{of_point, points_in, since_comma, last_field, with_node, with_periods}

-- ---- where a line ends

split_line : (line rest : List ℕ) → newlines line ≡ 0 → lines_in (line ++ (10 ∷ rest)) ≡ line ∷ lines_in rest
unfolding newlines lines_in
split_line [] rest e = refl
split_line (b ∷ line) rest e = go (eqb b 10) refl e (λ z. split_line line rest z)
  where
    go : (t : Bool) → eqb b 10 ≡ t → cond t 1 0 + newlines line ≡ 0 → (newlines line ≡ 0 → lines_in (line ++ (10 ∷ rest)) ≡ line ∷ lines_in rest)
        → lines_in (b ∷ (line ++ (10 ∷ rest))) ≡ (b ∷ line) ∷ lines_in rest
    go true q e f = absurd (omega arith)
    go false q e f = rw (q, f (omega arith))

-- a word and numbers
pub word_line : (word ns rest : List ℕ) → newlines word ≡ 0 → lines_in (word ++ (fields ns ++ (10 ∷ rest))) ≡ (word ++ fields ns) ∷ lines_in rest
word_line word ns rest e =
    ap lines_in (sym (append_assoc word (fields ns) (10 ∷ rest)))
    ∙ split_line (word ++ fields ns) rest (newlines_append word (fields ns) ∙ omega (arith, newlines_fields ns))

-- ---- which node it is of

-- no byte is a comma
unfoldable pub NoComma : List ℕ → Type 0
NoComma [] = Unit {0}
NoComma (b ∷ bytes) = (eqb b 44 ≡ false) × NoComma bytes

no_comma_append : (xs ys : List ℕ) → NoComma xs → NoComma ys → NoComma (xs ++ ys)
unfolding NoComma
no_comma_append [] ys p q = q
no_comma_append (x ∷ xs) ys p q = (p.0, no_comma_append xs ys p.1 q)

no_comma_digits : (k n : ℕ) → NoComma (digits_of k n)
unfolding NoComma digits_of
no_comma_digits zero n = tt
no_comma_digits (suc k) zero = tt
no_comma_digits (suc k) (suc n) =
    no_comma_append (digits_of k (suc n / 10)) (digit_byte (suc n % 10) ∷ []) (no_comma_digits k (suc n / 10)) (ne_eqb (digit_byte (suc n % 10)) 44 (omega arith), tt)

no_comma_decimal : (n : ℕ) → NoComma (decimal n)
unfolding NoComma decimal
no_comma_decimal zero = (refl, tt)
no_comma_decimal (suc n) = no_comma_digits (suc n) (suc n)

before_comma_lem : (xs rest : List ℕ) → NoComma xs → before_comma (xs ++ (44 ∷ rest)) ≡ xs
unfolding NoComma before_comma
before_comma_lem [] rest p = refl
before_comma_lem (x ∷ xs) rest p = rw (p.0, before_comma_lem xs rest p.1)

behind_comma_lem : (xs rest : List ℕ) → NoComma xs → behind_comma (xs ++ (44 ∷ rest)) ≡ rest
unfolding NoComma behind_comma
behind_comma_lem [] rest p = refl
behind_comma_lem (x ∷ xs) rest p = rw (p.0, behind_comma_lem xs rest p.1)

same_bytes_lem : (xs : List ℕ) → same_bytes xs xs ≡ true
unfolding same_bytes
same_bytes_lem [] = refl
same_bytes_lem (x ∷ xs) = rw (eq-eqb x x refl, same_bytes_lem xs)

bytes_same : (xs ys : List ℕ) → same_bytes xs ys ≡ true → xs ≡ ys
unfolding same_bytes
bytes_same [] [] e = refl
bytes_same [] (y ∷ ys) e = let z : ◌≡◌ {A = ℕ} 0 1 = cc in absurd (omega arith)
bytes_same (x ∷ xs) [] e = let z : ◌≡◌ {A = ℕ} 0 1 = cc in absurd (omega arith)
bytes_same (x ∷ xs) (y ∷ ys) e = go (eqb x y) refl e (λ q. bytes_same xs ys q)
  where
    go : (t : Bool) → eqb x y ≡ t → cond t (same_bytes xs ys) false ≡ true → (same_bytes xs ys ≡ true → xs ≡ ys) → x ∷ xs ≡ y ∷ ys
    go true q e f =
        let one = eqb-true x y q in
        let rest = f e in
        cc (one, rest)
    go false q e f = let z : ◌≡◌ {A = ℕ} 0 1 = cc in absurd (omega arith)

-- the node of a line: the number after its first word, where there is another one behind it
module _ (word : List ℕ) (plain : NoComma word) (k : ℕ) (node n : ℕ) (ns : List ℕ) where
  node_of : before_comma (behind_comma (word ++ fields (node ∷ n ∷ ns))) ≡ decimal node
  unfolding fields field
  node_of = rw (behind_comma_lem word (decimal node ++ fields (n ∷ ns)) plain) (before_comma_lem (decimal node) (decimal n ++ fields ns) (no_comma_decimal node))

  pub own_line : node ≡ k → (ls : List (List ℕ)) → of_node k ((word ++ fields (node ∷ n ∷ ns)) ∷ ls) ≡ (word ++ fields (node ∷ n ∷ ns)) ∷ of_node k ls
  unfolding of_node
  own_line e ls = rw (node_of, e, same_bytes_lem (decimal k))

  pub other_line : (node ≡ k → ⊥) → (ls : List (List ℕ)) → of_node k ((word ++ fields (node ∷ n ∷ ns)) ∷ ls) ≡ of_node k ls
  unfolding of_node
  other_line d ls = rw node_of (go (same_bytes (decimal node) (decimal k)) refl)
    where
      go : (t : Bool) → same_bytes (decimal node) (decimal k) ≡ t → cond t ((word ++ fields (node ∷ n ∷ ns)) ∷ of_node k ls) (of_node k ls) ≡ of_node k ls
      go true q = absurd (d (decimal_once node k (bytes_same (decimal node) (decimal k) q)))
      go false q = refl

-- ---- quiet and signal lines, and their last fields

-- a number more
fields_more : (word ns : List ℕ) (p : ℕ) → (word ++ fields ns) ++ field p ≡ word ++ fields (ns ++ (p ∷ []))
fields_more word ns p = append_assoc word (fields ns) (field p) ∙ ap (λ l. word ++ l) (sym (fields_snoc ns p))

-- a line of a word and numbers is a point's or not by its word: a point's is kept, and gets its number; another is left out, and gets none
module _ (word : List ℕ) (plain : NoComma word) (n : ℕ) (ns : List ℕ) (ls : List (List ℕ)) where
  abbrev line : List ℕ
  line = word ++ fields (n ∷ ns)

  first_word : before_comma line ≡ word
  unfolding fields field
  first_word = before_comma_lem word (decimal n ++ fields ns) plain

  pub point_kept : of_point word ≡ true → points_in (line ∷ ls) ≡ line ∷ points_in ls
  unfolding points_in
  point_kept e = rw (first_word, e)

  pub other_left : of_point word ≡ false → points_in (line ∷ ls) ≡ points_in ls
  unfolding points_in
  other_left e = rw (first_word, e)

  pub point_numbered : of_point word ≡ true → (p : ℕ)
      → with_periods p (line ∷ ls) ≡ (word ++ fields (n ∷ (ns ++ (p ∷ [])))) ∷ with_periods (p + 1) ls
  unfolding with_periods
  point_numbered e p = rw (first_word, e, fields_more word (n ∷ ns) p)

  pub other_kept : of_point word ≡ false → (p : ℕ) → with_periods p (line ∷ ls) ≡ line ∷ with_periods p ls
  unfolding with_periods
  other_kept e p = rw (first_word, e)

-- what stands behind a comma, whatever stands before it
last_behind : (since xs rest : List ℕ) → since_comma since (xs ++ (44 ∷ rest)) ≡ last_field rest
unfolding since_comma
last_behind since [] rest = refl
last_behind since (x ∷ xs) rest = go (eqb x 44) (last_behind [] xs rest) (last_behind (since ++ (x ∷ [])) xs rest)
  where
    go : (b : Bool) {e f : List ℕ} → e ≡ last_field rest → f ≡ last_field rest → cond b e f ≡ last_field rest
    go true p q = p
    go false p q = q

last_plain : (since xs : List ℕ) → NoComma xs → since_comma since xs ≡ since ++ xs
unfolding NoComma since_comma
last_plain since [] p = sym (append-nil since)
last_plain since (x ∷ xs) p = rw p.0 (last_plain (since ++ (x ∷ [])) xs p.1 ∙ append_assoc since (x ∷ []) xs)

-- the last of a line's numbers
pub last_number : (word ns : List ℕ) (n : ℕ) → last_field (word ++ fields (ns ++ (n ∷ []))) ≡ decimal n
unfolding field
last_number word ns n =
    ap last_field (sym (fields_more word ns n)) ∙ last_behind [] (word ++ fields ns) (decimal n)
    ∙ last_plain [] (decimal n) (no_comma_decimal n)

-- ---- the node put after the first word

pub with_node_lem : (word : List ℕ) → NoComma word → (node n : ℕ) (ns : List ℕ) → with_node node (word ++ fields (n ∷ ns)) ≡ word ++ fields (node ∷ n ∷ ns)
unfolding with_node fields field
with_node_lem word plain node n ns = rw (before_comma_lem word (decimal n ++ fields ns) plain, behind_comma_lem word (decimal n ++ fields ns) plain)
