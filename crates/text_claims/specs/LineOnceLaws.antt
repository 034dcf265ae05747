-- A line that begins with a word determines its numbers and what is behind it; so does the line of a refusal. Laws.
use Rattle.std.specs.Prelude.{ℕ, ◌≡◌, List, [], ◌∷◌, ◌++◌}
use Rattle.std.proofs.Common.{sym, ◌∙◌, append_assoc, append-nil}
use Rattle.decimal.specs.Fields.{fields}
use Rattle.decimal.specs.Word.{newline as lf}
use Rattle.write.specs.Field.{field}
use Rattle.write.specs.Refused.{refused_word, refused_line}
use Rattle.text_claims.specs.NumberOnceLaws.{behind_once, fields_once}

-- a line of a word and fields
pub line_once : (word ns ms xs ys : List ℕ) → word ++ (fields ns ++ (10 ∷ xs)) ≡ word ++ (fields ms ++ (10 ∷ ys)) → (ns ≡ ms) × (xs ≡ ys)
line_once word ns ms xs ys e = fields_once ns ms xs ys (behind_once word e)

-- ---- the shape of a line

pub group1 : (w a n xs : List ℕ) → w ++ a ++ n ++ xs ≡ w ++ ((a ++ []) ++ (n ++ xs))
group1 w a n xs = simp (append_assoc, append-nil)

pub group2 : (w a b n xs : List ℕ) → w ++ a ++ b ++ n ++ xs ≡ w ++ ((a ++ (b ++ [])) ++ (n ++ xs))
group2 w a b n xs = simp (append_assoc, append-nil)

pub group3 : (w a b c n xs : List ℕ) → w ++ a ++ b ++ c ++ n ++ xs ≡ w ++ ((a ++ (b ++ (c ++ []))) ++ (n ++ xs))
group3 w a b c n xs = simp (append_assoc, append-nil)

pub group4 : (w a b c d n xs : List ℕ) → w ++ a ++ b ++ c ++ d ++ n ++ xs ≡ w ++ ((a ++ (b ++ (c ++ (d ++ [])))) ++ (n ++ xs))
group4 w a b c d n xs = simp (append_assoc, append-nil)

refused_shape : (n p : ℕ) (xs : List ℕ) → refused_line n p ++ xs ≡ refused_word ++ (fields (n ∷ p ∷ []) ++ (10 ∷ xs))
unfolding refused_line field fields
refused_shape n p xs = group2 refused_word (field n) (field p) lf xs

module _ {xs ys : List ℕ} where
  pub refused_once : (n p n' p' : ℕ) → refused_line n p ++ xs ≡ refused_line n' p' ++ ys → (n ≡ n') × (p ≡ p') × (xs ≡ ys)
  refused_once n p n' p' e =
      let o = line_once refused_word _ _ _ _ (sym (refused_shape n p xs) ∙ e ∙ refused_shape n' p' ys) in
      (cc o.0, cc o.0, o.1)
