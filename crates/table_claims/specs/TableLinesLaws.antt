-- The table program's lines determine their numbers and what is behind them. Laws.
use Rattle.std.specs.Prelude.{ℕ, ◌≡◌, List, [], ◌∷◌, ◌++◌, get_or, drop}
use Rattle.std.proofs.Math.Path.{sym}
use Rattle.std.proofs.Common.{ap, ◌∙◌, append_assoc, arith}
use Rattle.bracket.specs.declared.Bracket.{Bracket}
use Rattle.bracket.specs.declared.Bracket.TheVariants.{At, Between, Open, Beyond}
use Rattle.decimal.specs.Decimal.{decimal}
use Rattle.decimal.specs.Fields.{fields}
use Rattle.decimal.specs.Word.{newline as lf}
use Rattle.write.specs.Field.{field}
use Rattle.table_lines.specs.RowLine.{standings_word, arl_word, standings_line, row_line, arl_line}
use Rattle.table_lines.specs.PercentLine.{q_word, bracket_fields, percent_line}
use Rattle.text_claims.specs.NumberOnceLaws.{comma, newline, number_once, behind_once, fields_once}
use Rattle.text_claims.specs.LineOnceLaws.{line_once, group1, group3}

standings_shape : (n : ℕ) (xs : List ℕ) → standings_line n ++ xs ≡ standings_word ++ (fields (n ∷ []) ++ (10 ∷ xs))
unfolding standings_line field fields
standings_shape n xs = group1 standings_word (field n) lf xs

arl_shape : (a b c : ℕ) (xs : List ℕ) → arl_line a b c ++ xs ≡ arl_word ++ (fields (a ∷ b ∷ c ∷ []) ++ (10 ∷ xs))
unfolding arl_line field fields
arl_shape a b c xs = group3 arl_word (field a) (field b) (field c) lf xs

pub row_shape : (n a b c : ℕ) (xs : List ℕ) → row_line n a b c ++ xs ≡ decimal n ++ (fields (a ∷ b ∷ c ∷ []) ++ (10 ∷ xs))
unfolding row_line field fields
row_shape n a b c xs = group3 (decimal n) (field a) (field b) (field c) lf xs

module _ {xs ys : List ℕ} where
  pub standings_once : (n n' : ℕ) → standings_line n ++ xs ≡ standings_line n' ++ ys → (n ≡ n') × (xs ≡ ys)
  standings_once n n' e =
      let o = line_once standings_word _ _ _ _ (sym (standings_shape n xs) ∙ e ∙ standings_shape n' ys) in
      (cc o.0, o.1)

  pub arl_once : (a b c a' b' c' : ℕ) → arl_line a b c ++ xs ≡ arl_line a' b' c' ++ ys → (a ≡ a') × (b ≡ b') × (c ≡ c') × (xs ≡ ys)
  arl_once a b c a' b' c' e =
      let o = line_once arl_word _ _ _ _ (sym (arl_shape a b c xs) ∙ e ∙ arl_shape a' b' c' ys) in
      (cc o.0, cc o.0, cc o.0, o.1)

  -- the four numbers of a row
  pub row_once : (n a b c n' a' b' c' : ℕ) → row_line n a b c ++ xs ≡ row_line n' a' b' c' ++ ys → (n ≡ n') × (a ≡ a') × (b ≡ b') × (c ≡ c') × (xs ≡ ys)
  unfolding fields field
  row_once n a b c n' a' b' c' e =
      let f = sym (row_shape n a b c xs) ∙ e ∙ row_shape n' a' b' c' ys in
      let k = number_once n n' comma comma f in
      let o = fields_once (a ∷ b ∷ c ∷ []) (a' ∷ b' ∷ c' ∷ []) xs ys k.1 in
      (k.0, cc o.0, cc o.0, cc o.0, o.1)

-- ---- where a percentile lies

bracket_once : (a b : Bracket) → (xs ys : List ℕ) → bracket_fields a ++ (10 ∷ xs) ≡ bracket_fields b ++ (10 ∷ ys) → (a ≡ b) × (xs ≡ ys)
unfolding bracket_fields field
bracket_once (At n) (At m) xs ys e = let o = number_once n m newline newline (ap (drop 4) e) in (ap At o.0, ap (drop 1) o.1)
bracket_once (At n) (Between low high) xs ys e = let z : ◌≡◌ {A = ℕ} 97 98 = ap (λ l. get_or l 1 0) e in absurd (omega arith)
bracket_once (At n) (Open low) xs ys e = let z : ◌≡◌ {A = ℕ} 97 111 = ap (λ l. get_or l 1 0) e in absurd (omega arith)
bracket_once (At n) (Beyond h) xs ys e = let z : ◌≡◌ {A = ℕ} 97 98 = ap (λ l. get_or l 1 0) e in absurd (omega arith)
bracket_once (Between low high) (At m) xs ys e = let z : ◌≡◌ {A = ℕ} 98 97 = ap (λ l. get_or l 1 0) e in absurd (omega arith)
bracket_once (Between low high) (Between low' high') xs ys e =
    let f = sym (append_assoc (decimal low) (field high) (10 ∷ xs)) ∙ ap (drop 9) e ∙ append_assoc (decimal low') (field high') (10 ∷ ys) in
    let o = number_once low low' comma comma f in
    let r = number_once high high' newline newline (ap (drop 1) o.1) in
    (cc (o.0, r.0), ap (drop 1) r.1)
bracket_once (Between low high) (Open low') xs ys e = let z : ◌≡◌ {A = ℕ} 98 111 = ap (λ l. get_or l 1 0) e in absurd (omega arith)
bracket_once (Between low high) (Beyond h) xs ys e = let z : ◌≡◌ {A = ℕ} 116 121 = ap (λ l. get_or l 3 0) e in absurd (omega arith)
bracket_once (Open low) (At m) xs ys e = let z : ◌≡◌ {A = ℕ} 111 97 = ap (λ l. get_or l 1 0) e in absurd (omega arith)
bracket_once (Open low) (Between low' high') xs ys e = let z : ◌≡◌ {A = ℕ} 111 98 = ap (λ l. get_or l 1 0) e in absurd (omega arith)
bracket_once (Open low) (Open low') xs ys e = let o = number_once low low' newline newline (ap (drop 6) e) in (ap Open o.0, ap (drop 1) o.1)
bracket_once (Open low) (Beyond h) xs ys e = let z : ◌≡◌ {A = ℕ} 111 98 = ap (λ l. get_or l 1 0) e in absurd (omega arith)
bracket_once (Beyond h) (At m) xs ys e = let z : ◌≡◌ {A = ℕ} 98 97 = ap (λ l. get_or l 1 0) e in absurd (omega arith)
bracket_once (Beyond h) (Between low high) xs ys e = let z : ◌≡◌ {A = ℕ} 121 116 = ap (λ l. get_or l 3 0) e in absurd (omega arith)
bracket_once (Beyond h) (Open low) xs ys e = let z : ◌≡◌ {A = ℕ} 98 111 = ap (λ l. get_or l 1 0) e in absurd (omega arith)
bracket_once (Beyond h) (Beyond h') xs ys e = let o = number_once h h' newline newline (ap (drop 8) e) in (ap Beyond o.0, ap (drop 1) o.1)

percent_shape : (p : ℕ) (a : Bracket) (xs : List ℕ) → percent_line p a ++ xs ≡ (q_word ++ field p) ++ (bracket_fields a ++ (10 ∷ xs))
unfolding percent_line
percent_shape p a xs = append_assoc (q_word ++ field p ++ bracket_fields a) lf xs ∙ append_assoc (q_word ++ field p) (bracket_fields a) (lf ++ xs)

pub percent_once : (p : ℕ) (a b : Bracket) → (xs ys : List ℕ) → percent_line p a ++ xs ≡ percent_line p b ++ ys → (a ≡ b) × (xs ≡ ys)
percent_once p a b xs ys e =
    bracket_once a b xs ys (behind_once (q_word ++ field p) (sym (percent_shape p a xs) ∙ e ∙ percent_shape p b ys))
