-- Laws of the sum of the first n chances of a list.
use Rattle.std.specs.Prelude.{◌≡◌, List, ℕ, ◌+◌, ◌≤◌, get_or}
use Rattle.runlength.specs.Sum.{at}
use Rattle.runlength.specs.SumLaws.{sum_zero, sum_more, sum_upto}
use Rattle.runlength.specs.Chain.{cdf_of}

module _ (pmf : List ℕ) where
  pub cdf_zero : cdf_of pmf 0 ≡ 0
  unfolding cdf_of
  cdf_zero = sum_zero (at pmf)

  -- one chance more
  pub cdf_more : (n : ℕ) → cdf_of pmf (n + 1) ≡ cdf_of pmf n + get_or pmf n 0
  unfolding cdf_of
  cdf_more n = sum_more n (at pmf)

  -- fewer chances, a smaller sum
  pub cdf_upto : (m n : ℕ) → m ≤ n → cdf_of pmf m ≤ cdf_of pmf n
  unfolding cdf_of
  cdf_upto m n h = sum_upto m n (at pmf) h
