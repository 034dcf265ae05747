-- TO BELIEVE: a bracket in the array that a caller lends. Definitions.
use Rattle.std.specs.Prelude.{ℕ, List, set}
use Rattle.bracket.specs.declared.Bracket.{Bracket}
use Rattle.bracket.specs.declared.Bracket.TheVariants.{At, Between, Open, Beyond}

-- three numbers of an array
abbrev pub written : ℕ → ℕ → ℕ → List ℕ → List ℕ
written kind first second answer = set (set (set answer 0 kind) 1 first) 2 second

-- what the answer's array of three numbers then holds: 1 for at, 2 for between, 3 for open, 4 for beyond, and the numbers
abbrev pub bracket_as : Bracket → List ℕ → List ℕ
bracket_as (At n) answer = written 1 n n answer
bracket_as (Between low high) answer = written 2 low high answer
bracket_as (Open low) answer = written 3 low 0 answer
bracket_as (Beyond h) answer = written 4 h 0 answer
