-- What stands in the buffer once a report's answer is written behind nothing. Working definitions.
use Rattle.std.specs.Prelude.{ℕ, ◌≡◌, List, Err, Ok, Result}
use Rattle.rules.specs.declared.refusal.Refusal.{Refusal}
use Rattle.rules.specs.Refusal.{number_of, place_of}
use Rattle.write.specs.Wrote.{Wrote}
use Rattle.write.specs.Refused.{refused_line}

-- what was written stays; where something is turned down, the line of its number and place is written from the buffer's start
abbrev pub AnswerStandsBy : {R : Type 0} → (R → ℕ) → (R → ℕ) → Result ℕ R → List ℕ → List ℕ → ℕ → Type 0
AnswerStandsBy number place (Ok n) before after r = (r ≡ n) × (after ≡ before)
AnswerStandsBy number place (Err x) before after r = Wrote before 0 after r (refused_line (number x) (place x))

-- the same of a refusal
abbrev pub AnswerStands : Result ℕ Refusal → List ℕ → List ℕ → ℕ → Type 0
AnswerStands = AnswerStandsBy number_of place_of
