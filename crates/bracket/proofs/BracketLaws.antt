-- Laws of the percentile bracket: what an accepted call answers, and how the two bounds stand to each other.
use Rattle.std.specs.Prelude.{◌≡◌, refl, Bool, true, false, cond, List, ℕ, ◌+◌, ◌*◌, ◌≤◌, ◌<◌, T, eqb, length, Ok, Option, Some, None}
use Rattle.std.proofs.Math.Path.{ap, ap₂}
use Rattle.std.proofs.Common.{◌∙◌, mul-le-mul, arith, leb→le, eqb→eq, le-leb, eq-eqb, ne_eqb}
use Rattle.std.proofs.Math.Dec.{lt→ltb}
use Rattle.runlength.specs.Percentile.{least, Percentile, Contains}
use Rattle.runlength.proofs.PercentileLaws.{least_none, least_percentile, contains_exact}
use Rattle.bracket.specs.declared.Bracket.TheVariants.{At, Between, Open, Beyond}
use Rattle.runlength.specs.Scale.{units_per_one, percents_per_one}
use Rattle.runlength.specs.Chain.{cdf_of}
use Rattle.bracket.specs.Bracket.{reaches, passes, high_test, low_test, bracket_by, percentile_bracket, bracket_of}
use Rattle.bracket.specs.Contains.{BracketContains}
use Rattle.bracket.specs.AcceptedBracket.{AcceptedBracket}
use Rattle.bracket.proofs.RefusedLaws.{answered}

-- an accepted call is answered by its bracket
pub accepted_bracket : (pmf : List ℕ) (count p : ℕ) → AcceptedBracket pmf count p → bracket_of pmf count p ≡ Ok (percentile_bracket pmf count p)
accepted_bracket pmf count p a =
    answered pmf count p a.not_empty a.short a.some_states a.few_states a.some_percent a.part_percent
    (le-leb (cdf_of pmf (length pmf)) units_per_one a.total)

-- what the two bounds contain, the bracket that they make contains
pub by_contains : (test : ℕ → Bool) (h : ℕ) (low high : Option ℕ) → Contains test h low high → BracketContains test (bracket_by low high h)
unfolding Contains bracket_by BracketContains
by_contains test h None high c = c
by_contains test h (Some l) None c = c
by_contains test h (Some l) (Some u) c = go (eqb l u) (eqb→eq l u)
  where
    go : (b : Bool) → (T b → l ≡ u) → BracketContains test (cond b (At l) (Between l u))
    go true e = contains_exact test h l u (e tt) c
    go false e = c

-- the bracket by the two bounds, case by case
module _ {low : Option ℕ} (high : Option ℕ) (h : ℕ) where
  pub by_neither : low ≡ None → bracket_by low high h ≡ Beyond h
  unfolding bracket_by
  by_neither p = ap (λ (o : Option ℕ). bracket_by o high h) p

  module _ {l : ℕ} (at_low : low ≡ Some l) where
    pub by_low : high ≡ None → bracket_by low high h ≡ Open l
    unfolding bracket_by
    by_low q = ap₂ (λ (o p : Option ℕ). bracket_by o p h) at_low q

    module _ {u : ℕ} (at_high : high ≡ Some u) where
      by_both : bracket_by low high h ≡ cond (eqb l u) (At l) (Between l u)
      unfolding bracket_by
      by_both = ap₂ (λ (o p : Option ℕ). bracket_by o p h) at_low at_high

      pub by_equal : l ≡ u → bracket_by low high h ≡ At l
      by_equal e = by_both ∙ ap (λ (b : Bool). cond b (At l) (Between l u)) (eq-eqb l u e)

      pub by_unequal : (l ≡ u → ⊥) → bracket_by low high h ≡ Between l u
      by_unequal e = by_both ∙ ap (λ (b : Bool). cond b (At l) (Between l u)) (ne_eqb l u e)

-- with anything added, what was reached is passed
over : (a x s : ℕ) → a ≤ percents_per_one * x → 1 ≤ s → a < percents_per_one * (x + s)
over a x s h l = omega arith

module _ (pmf : List ℕ) (count p : ℕ) where
  -- what passes the high test passes the low test
  high_low : (n : ℕ) → 1 ≤ n → T (high_test pmf p n) → T (low_test pmf count p n)
  unfolding reaches passes
  high_low n i t =
      lt→ltb _ _ (over (p * units_per_one) (cdf_of pmf n) (n * (count + 1)) (leb→le _ _ t) (mul-le-mul {n₁ = 1} {m₁ = 1} {n₂ = n} {m₂ = count + 1} i (omega arith)))

  -- so with no low there is no high, and 'beyond' means neither
  pub no_low_no_high : (h : ℕ) → least (low_test pmf count p) h ≡ None → least (high_test pmf p) h ≡ None
  no_low_no_high h e = go (least (high_test pmf p) h) refl
    where
      at : (k : ℕ) → Percentile (high_test pmf p) k × (k ≤ h) → ⊥
      at k r = least_none (low_test pmf count p) h e k r.0.from_one r.1 (high_low k r.0.from_one r.0.there)

      go : (o : Option ℕ) → least (high_test pmf p) h ≡ o → o ≡ None
      go None q = refl
      go (Some k) q = absurd (at k (least_percentile (high_test pmf p) h k q))
