-- A call of the bracket, by the answer of the operation.
use Rattle.std.specs.Prelude.{◌≡◌, List, ℕ, Result}
use Rattle.std.proofs.Common.{sym, ap, ◌∙◌}
use Rattle.rules.specs.Check.{checked}
use Rattle.bracket.specs.declared.Bracket.{Bracket}
use Rattle.rules.specs.declared.refusal.Refusal.{Refusal}
use Rattle.bracket.specs.Bracket.{bracket_of}
use Rattle.capi.specs.BracketCall.{bracket_after, BracketCalled}
use Rattle.codes.specs.Codes.{check_code}

-- b is the bracket's answer, which is x
pub bracket_call : (pmf : List ℕ) (count p : ℕ) (a a' : List ℕ) (r : ℕ) (b x : Result Bracket Refusal) → b ≡ bracket_of pmf count p → b ≡ x
    → r ≡ check_code (checked x) → a' ≡ bracket_after x a → BracketCalled pmf count p a a' r
bracket_call pmf count p a a' r b x e q code answer =
    let t : bracket_of pmf count p ≡ x = sym e ∙ q in
    record { code = code ∙ sym (ap (λ (y : Result Bracket Refusal). check_code (checked y)) t); answer = answer ∙ sym (ap (λ (y : Result Bracket Refusal). bracket_after y a) t) }
