-- TO BELIEVE: what it means that a bracket contains a percentile. Definitions.
use Rattle.std.specs.Prelude.{Bool, ℕ, ◌≤◌, ◌<◌, Err, Ok, Result}
use Rattle.rules.specs.declared.refusal.Refusal.{Refusal}
use Rattle.runlength.specs.Percentile.{Percentile}
use Rattle.bracket.specs.declared.Bracket.{Bracket}
use Rattle.bracket.specs.declared.Bracket.TheVariants.{At, Between, Open, Beyond}

-- The bracket contains the percentile of a test: n (at n), from low to high (between), low or more (open), more than h (beyond). Where
-- nothing is reached there is no percentile, and it counts as beyond every number.
unfoldable pub BracketContains : (ℕ → Bool) → Bracket → Type 0
BracketContains test (At n) = Percentile test n
BracketContains test (Between low high) = (n : ℕ) × Percentile test n × (low ≤ n) × (n ≤ high)
BracketContains test (Open low) = (n : ℕ) → Percentile test n → low ≤ n
BracketContains test (Beyond h) = (n : ℕ) → Percentile test n → h < n

-- the bracket is not refused, and its bracket contains it
abbrev pub ContainsPercentile : (ℕ → Bool) → Result Bracket Refusal → Type 0
ContainsPercentile test (Ok bracket) = BracketContains test bracket
ContainsPercentile test (Err x) = ⊥
