-- Laws of the search for a bound: its sum fits, its turns, and which search finds low and which high.
use Rattle.std.specs.Prelude.{◌≡◌, List, ℕ, ◌+◌, ◌-◌, ◌*◌, ◌/◌, ◌≤◌, ◌<◌, length, get_or, Some, None}
use Rattle.std.proofs.Common.{ap, ◌∙◌, mul-le-mul, arith, le-leb}
use Rattle.std.proofs.Math.Path.{ap₂}
use Rattle.std.proofs.Math.Dec.{leb}
use Rattle.std.proofs.lemmas.Bool.{lt-leb}
use Rattle.runlength.specs.Percentile.{least}
use Rattle.runlength.proofs.PercentileLaws.{least_cong}
use Rattle.rules.specs.Bounds.{max_states}
use Rattle.runlength.specs.Scale.{max_horizon, units_per_one, percents_per_one}
use Rattle.runlength.specs.Chain.{cdf_of}
use Rattle.bracket.specs.Bracket.{reaches, passes, low_test, high_test}
use Rattle.bracket.specs.Crossing.{Summable, Searched, reach_test}
use Rattle.runlength.proofs.CdfLaws.{cdf_zero, cdf_more, cdf_upto}
use Rattle.runlength.proofs.LeastLaws.{least_start, least_on, least_here, least_end}
use Rattle.bracket.specs.QuotientLaws.{at_least_share, over_share}

module _ (pmf : List ℕ) (slack goal : ℕ) where
  pub searched_start : Searched pmf slack goal 0 0
  searched_start = record {
    upto = omega arith;
    summed = omega (arith, cdf_zero pmf);
    none_yet = least_start (reach_test pmf slack goal);
  }

  module _ {sum n : ℕ} (before : Searched pmf slack goal sum n) (more : n < length pmf) where
    -- the sum with one chance more
    sum_next : sum + (get_or pmf n 0 + slack) ≡ cdf_of pmf (n + 1) + (n + 1) * slack
    sum_next = omega (arith, cdf_more pmf n, before.summed)

    -- which fits 64 bits with room to spare
    pub next_room : Summable pmf → slack ≤ max_states + 1 → sum + (get_or pmf n 0 + slack) ≤ units_per_one + max_horizon * (max_states + 1)
    next_room fits s =
        omega
        (arith, sum_next, fits.total, cdf_upto pmf (n + 1) (length pmf) (omega arith), mul-le-mul {n₁ = n + 1} {m₁ = slack} {n₂ = max_horizon} {m₂ = max_states + 1} (omega (arith, fits.short)) s)

    -- the goal is reached at n + 1
    pub searched_here : goal ≤ sum + (get_or pmf n 0 + slack) → least (reach_test pmf slack goal) (length pmf) ≡ Some (n + 1)
    unfolding reach_test
    searched_here h =
        least_here (reach_test pmf slack goal) n (length pmf) before.none_yet (le-leb goal (cdf_of pmf (n + 1) + (n + 1) * slack) (omega (arith, sum_next))) (omega arith)

    -- it is not
    pub searched_on : sum + (get_or pmf n 0 + slack) < goal → Searched pmf slack goal (sum + (get_or pmf n 0 + slack)) (n + 1)
    unfolding reach_test
    searched_on h = record {
      upto = omega arith;
      summed = sum_next;
      none_yet = least_on (reach_test pmf slack goal) n before.none_yet (lt-leb goal (cdf_of pmf (n + 1) + (n + 1) * slack) (omega (arith, sum_next)));
    }

  -- it never is
  pub searched_end : (sum n : ℕ) → Searched pmf slack goal sum n → length pmf ≤ n → least (reach_test pmf slack goal) (length pmf) ≡ None
  searched_end sum n before h =
      least_end (reach_test pmf slack goal) n (length pmf) before.none_yet (omega (arith, before.upto))

  -- the search with N + 1 for each chance, for the number after the share rounded down, is the search for low
  pub search_low : (count p h : ℕ) → slack ≡ count + 1 → goal ≡ (p * units_per_one + percents_per_one) / percents_per_one
      → least (reach_test pmf slack goal) h ≡ least (low_test pmf count p) h
  unfolding reach_test passes
  search_low count p h s g =
      least_cong (reach_test pmf slack goal) (low_test pmf count p) h
      (λ n i l. ap₂ (λ (x y : ℕ). leb y (cdf_of pmf n + n * x)) s g ∙ over_share percents_per_one (omega arith) (p * units_per_one) (cdf_of pmf n + n * (count + 1)))

  no_slack : (n : ℕ) → slack ≡ 0 → cdf_of pmf n + n * slack ≡ cdf_of pmf n
  no_slack n s = omega (arith, ap (λ (x : ℕ). n * x) s)

  -- the search with nothing for each chance, for the share rounded up, is the search for high
  pub search_high : (p h : ℕ) → slack ≡ 0 → goal ≡ (p * units_per_one + (percents_per_one - 1)) / percents_per_one
      → least (reach_test pmf slack goal) h ≡ least (high_test pmf p) h
  unfolding reach_test reaches
  search_high p h s g =
      least_cong (reach_test pmf slack goal) (high_test pmf p) h
      (λ n i l. ap₂ (λ (x y : ℕ). leb y x) (no_slack n s) g ∙ at_least_share percents_per_one (omega arith) (p * units_per_one) (cdf_of pmf n))
