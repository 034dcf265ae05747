-- A refusal's number and its place tell it from every other.
use Rattle.std.specs.Prelude.{ℕ, ◌≡◌, refl, cond, eqb}
use Rattle.std.proofs.Common.{sym, ◌∙◌}
use Rattle.rules.specs.declared.refusal.Refusal.{Refusal}
use Rattle.rules.specs.declared.refusal.Refusal.TheVariants.{Sigma, RuleCount, RuleBounds, ZoneSet, State, Zone, Count, Weights, Horizon, States}
use Rattle.rules.specs.declared.refusal.Refusal.TheVariants.{ShortList, ListLength, StateCount, Percent, Total, Line, TextSize, Shift, Node}
use Rattle.rules.specs.Refusal.{number_of, place_of}

-- the refusal of a number and a place
unfoldable refusal_of : ℕ → ℕ → Refusal
refusal_of n place =
    cond (eqb n 1) Sigma
    (cond (eqb n 2) RuleCount
    (cond (eqb n 3) (RuleBounds place)
    (cond (eqb n 4) (ZoneSet place)
    (cond (eqb n 5) State
    (cond (eqb n 6) Zone
    (cond (eqb n 7) Count
    (cond (eqb n 8) Weights
    (cond (eqb n 9) Horizon
    (cond (eqb n 10) (States place)
    (cond (eqb n 11) ShortList
    (cond (eqb n 12) ListLength
    (cond (eqb n 13) StateCount
    (cond (eqb n 14) Percent
    (cond (eqb n 15) Total
    (cond (eqb n 16) (Line place)
    (cond (eqb n 17) TextSize
    (cond (eqb n 18) Shift (Node place))))))))))))))))))

back : (x : Refusal) → refusal_of (number_of x) (place_of x) ≡ x
unfolding refusal_of
back Sigma = refl
back RuleCount = refl
back (RuleBounds i) = refl
back (ZoneSet i) = refl
back State = refl
back Zone = refl
back Count = refl
back Weights = refl
back Horizon = refl
back (States place) = refl
back ShortList = refl
back ListLength = refl
back StateCount = refl
back Percent = refl
back Total = refl
back (Line line) = refl
back TextSize = refl
back Shift = refl
back (Node line) = refl

pub told_once : (x y : Refusal) → number_of x ≡ number_of y → place_of x ≡ place_of y → x ≡ y
told_once x y n p = sym (back x) ∙ rw (n, p) (back y)
