-- The percentile's bracket by an accepted table's chances contains the true percentile. Laws.
use Rattle.std.specs.Prelude.{◌≡◌, Bool, ℕ, ◌+◌, ◌*◌, ◌≤◌, T}
use Rattle.std.proofs.Math.Path.{ap, ap₂}
use Rattle.std.proofs.Common.{arith, leb→le, le→leb}
use Rattle.std.proofs.Math.Dec.{leb, ltb, lt→ltb}
use Rattle.runlength.specs.Scale.{units_per_one, percents_per_one}
use Rattle.runlength.specs.Chain.{cdf}
use Rattle.runlength.proofs.PercentBoundsLaws.{share_reached, reached_share}
use Rattle.runlength.specs.Percentile.{least}
use Rattle.runlength.proofs.PercentileLaws.{least_cong, bracket_contains}
use Rattle.table.specs.declared.TableFigures.{TableFigures}
use Rattle.chain.specs.TableChain.{state_count}
use Rattle.table.specs.Table.{TableCall, rules_of, chain_of, pmf_of}
use Rattle.table.specs.AcceptedTable.{AcceptedTable}
use Rattle.bracket.specs.Bracket.{reaches, passes, high_test, low_test, percentile_bracket}
use Rattle.bracket.specs.Contains.{BracketContains}
use Rattle.bracket.proofs.BracketLaws.{by_contains}
use Rattle.claims.specs.Exact.{reached}
use Rattle.claims.proofs.ExactLaws.{sum_of_chain}

module _ {t : TableCall} {f : TableFigures} (a : AcceptedTable t f) (percent : ℕ) where
  -- the true test, and the two tests by the chain's running sum
  abbrev true_test : ℕ → Bool
  true_test = reached (rules_of t) t.weights percent

  abbrev chain_high : ℕ → Bool
  chain_high = reaches (cdf (chain_of t)) percent

  abbrev chain_low : ℕ → Bool
  chain_low = passes (λ n. cdf (chain_of t) n + n * (state_count (rules_of t) + 1)) percent

  same_high : least (high_test (pmf_of t) percent) t.horizon ≡ least chain_high t.horizon
  unfolding reaches
  same_high = least_cong _ _ t.horizon (λ n i j. ap (λ x. leb (percent * units_per_one) (percents_per_one * x)) (a.pmf_cdf n j))

  same_low : least (low_test (pmf_of t) f.state_count percent) t.horizon ≡ least chain_low t.horizon
  unfolding passes
  same_low =
      least_cong _ _ t.horizon (λ n i j.
      ap₂ (λ x y. ltb (percent * units_per_one) (percents_per_one * (x + n * (y + 1)))) (a.pmf_cdf n j) a.count_is)

  high_reached : (n : ℕ) → T (chain_high n) → T (true_test n)
  unfolding reached reaches
  high_reached n h =
      rw (sum_of_chain (rules_of t) t.weights a.chain.bounds a.chain.few n)
      (le→leb _ _ (share_reached (chain_of t) a.proper percent percents_per_one n (leb→le _ _ h)))

  reached_low : (n : ℕ) → 1 ≤ n → T (true_test n) → T (chain_low n)
  unfolding reached passes
  reached_low n i h =
      lt→ltb _ _ (reached_share (chain_of t) a.proper percent percents_per_one n (omega arith) i
      (leb→le _ _ (rw (sum_of_chain (rules_of t) t.weights a.chain.bounds a.chain.few n) at h)))

  pub call_contains : BracketContains true_test (percentile_bracket (pmf_of t) f.state_count percent)
  unfolding percentile_bracket
  call_contains =
      rw (a.pmf_length, same_low, same_high)
      (by_contains true_test t.horizon (least chain_low t.horizon) (least chain_high t.horizon)
      (bracket_contains true_test chain_low chain_high reached_low high_reached t.horizon))
