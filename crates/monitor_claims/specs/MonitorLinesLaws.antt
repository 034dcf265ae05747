-- The monitor program's lines determine their numbers and what is behind them. Laws.
use Rattle.std.specs.Prelude.{ℕ, ◌≡◌, List, [], ◌∷◌, ◌++◌}
use Rattle.std.proofs.Common.{sym, ◌∙◌}
use Rattle.decimal.specs.Fields.{fields}
use Rattle.decimal.specs.Word.{newline as lf}
use Rattle.write.specs.Field.{field}
use Rattle.monitor_lines.specs.MonitorLines.{quiet_word, signal_word, total_word, quiet_line, signal_line, total_line}
use Rattle.text_claims.specs.LineOnceLaws.{line_once, group3, group4}

pub quiet_shape : (node n p : ℕ) (xs : List ℕ) → quiet_line node n p ++ xs ≡ quiet_word ++ (fields (node ∷ n ∷ p ∷ []) ++ (10 ∷ xs))
unfolding quiet_line field fields
quiet_shape node n p xs = group3 quiet_word (field node) (field n) (field p) lf xs

pub signal_shape : (node n m p : ℕ) (xs : List ℕ)
    → signal_line node n m p ++ xs ≡ signal_word ++ (fields (node ∷ n ∷ m ∷ p ∷ []) ++ (10 ∷ xs))
unfolding signal_line field fields
signal_shape node n m p xs = group4 signal_word (field node) (field n) (field m) (field p) lf xs

pub total_shape : (node n m : ℕ) (xs : List ℕ) → total_line node n m ++ xs ≡ total_word ++ (fields (node ∷ n ∷ m ∷ []) ++ (10 ∷ xs))
unfolding total_line field fields
total_shape node n m xs = group3 total_word (field node) (field n) (field m) lf xs

module _ {xs ys : List ℕ} where
  pub quiet_once : (k n p k' n' p' : ℕ) → quiet_line k n p ++ xs ≡ quiet_line k' n' p' ++ ys → (k ≡ k') × (n ≡ n') × (p ≡ p') × (xs ≡ ys)
  quiet_once k n p k' n' p' e =
      let o = line_once quiet_word _ _ _ _ (sym (quiet_shape k n p xs) ∙ e ∙ quiet_shape k' n' p' ys) in
      (cc o.0, cc o.0, cc o.0, o.1)

  pub signal_once : (k n m p k' n' m' p' : ℕ) → signal_line k n m p ++ xs ≡ signal_line k' n' m' p' ++ ys
      → (k ≡ k') × (n ≡ n') × (m ≡ m') × (p ≡ p') × (xs ≡ ys)
  signal_once k n m p k' n' m' p' e =
      let o = line_once signal_word _ _ _ _ (sym (signal_shape k n m p xs) ∙ e ∙ signal_shape k' n' m' p' ys) in
      (cc o.0, cc o.0, cc o.0, cc o.0, o.1)

  pub total_once : (k n m k' n' m' : ℕ) → total_line k n m ++ xs ≡ total_line k' n' m' ++ ys → (k ≡ k') × (n ≡ n') × (m ≡ m') × (xs ≡ ys)
  total_once k n m k' n' m' e =
      let o = line_once total_word _ _ _ _ (sym (total_shape k n m xs) ∙ e ∙ total_shape k' n' m' ys) in
      (cc o.0, cc o.0, cc o.0, o.1)
