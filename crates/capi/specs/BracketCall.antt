-- TO BELIEVE: a call of the percentile bracket. Definitions.
use Rattle.std.specs.Prelude.{ℕ, ◌≡◌, List, Err, Ok, Result}
use Rattle.bracket.specs.declared.Bracket.{Bracket}
use Rattle.rules.specs.declared.refusal.Refusal.{Refusal}
use Rattle.rules.specs.Check.{checked, Checked}
use Rattle.bracket.specs.Bracket.{bracket_of}
use Rattle.codes.specs.Codes.{check_code}
use Rattle.call_arrays.specs.BracketArrays.{bracket_as}

-- a refusal leaves it
abbrev pub bracket_after : Result Bracket Refusal → List ℕ → List ℕ
bracket_after (Ok found) answer = bracket_as found answer
bracket_after (Err x) answer = answer

pub record BracketCalled (pmf : List ℕ) (count p : ℕ) (a a' : List ℕ) (r : ℕ) : Type 0 where
  pub code : r ≡ check_code (checked (bracket_of pmf count p))
  pub answer : a' ≡ bracket_after (bracket_of pmf count p) a
