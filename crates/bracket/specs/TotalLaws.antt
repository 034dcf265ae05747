-- Laws of a sum of chances that is checked chance by chance.
use Rattle.std.specs.Prelude.{◌≡◌, true, false, List, ℕ, ◌+◌, ◌<◌, leb, length, get_or}
use Rattle.std.proofs.Common.{ap, arith, le-leb}
use Rattle.std.proofs.lemmas.Bool.{lt-leb}
use Rattle.runlength.specs.Scale.{units_per_one}
use Rattle.runlength.specs.Chain.{cdf_of}
use Rattle.runlength.proofs.CdfLaws.{cdf_zero, cdf_more, cdf_upto}

module _ (pmf : List ℕ) where
  -- a chance over what is left: the whole list sums to more
  pub total_over : (rest i : ℕ) → cdf_of pmf i + rest ≡ units_per_one → i < length pmf → rest < get_or pmf i 0
      → leb (cdf_of pmf (length pmf)) units_per_one ≡ false
  total_over rest i e h l =
      lt-leb (cdf_of pmf (length pmf)) units_per_one (omega (arith, cdf_more pmf i, cdf_upto pmf (i + 1) (length pmf) (omega arith)))

  -- nothing is over at the end: the whole list sums to no more
  pub total_within : (rest i : ℕ) → cdf_of pmf i + rest ≡ units_per_one → i ≡ length pmf → leb (cdf_of pmf (length pmf)) units_per_one ≡ true
  total_within rest i e h = le-leb (cdf_of pmf (length pmf)) units_per_one (omega (arith, ap (λ (n : ℕ). cdf_of pmf n) h))

-- what `sum_fits` meets its contract by
pub ruleset total_rules = (total_within, cdf_zero, cdf_more)
