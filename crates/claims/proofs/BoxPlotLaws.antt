-- An accepted plot record, by the table and the brackets that it is made of. Laws.
use Rattle.std.specs.Prelude.{◌≡◌, Bool, true, false, ℕ, ◌*◌, ◌^◌, ◌≤◌, Ok}
use Rattle.std.proofs.Math.Path.{refl, ap}
use Rattle.std.proofs.Common.{sym, subst, ◌∙◌, mul-le-mul_right, arith}
use Rattle.std.specs.Float.Ieee.Exact.{HasValue}
use Rattle.runlength.specs.Scale.{weight_total, units_per_one}
use Rattle.runlength.specs.Chain.{mean_error_bound, error_bound_of}
use Rattle.runlength.proofs.RestrictedMeanLaws.{mean_lower, mean_upper}
use Rattle.chain.specs.TableChain.{state_count}
use Rattle.table.specs.Table.{TableCall, rules_of, chain_of, pmf_of}
use Rattle.bracket.specs.declared.Bracket.{Bracket}
use Rattle.bracket.specs.declared.Bracket.TheVariants.{At, Between, Open, Beyond}
use Rattle.bracket.specs.Limits.{min_percent, max_percent}
use Rattle.bracket.specs.Bracket.{percentile_bracket}
use Rattle.bracket.proofs.BracketLaws.{accepted_bracket}
use Rattle.bracket.specs.Contains.{BracketContains}
use Rattle.summary.specs.declared.Summary.{Summary}
use Rattle.summary.specs.Summary.{summary_by}
use Rattle.summary.specs.AcceptedSummary.{AcceptedSummary}
use Rattle.summary.proofs.SummaryLaws.{accepted_summary}
use Rattle.plot.specs.declared.PlotItem.{PlotItem}
use Rattle.plot.specs.declared.PlotRecord.{PlotRecord}
use Rattle.plot.specs.MeanBounds.{parts_per_one, units_per_part, round_down, round_up}
use Rattle.plot.specs.MeanBoundsLaws.{down_below, up_above}
use Rattle.plot.specs.Item.{point_of}
use Rattle.plot.specs.Plot.{box_plot_of}
use Rattle.plot.specs.Shown.{Shows, ShowsSpread, ShowsSummary}
use Rattle.plot.specs.PlotLaws.{PlotOf, plot_of, record_shows}
use Rattle.claims.specs.Exact.{exact_mean}
use Rattle.claims.proofs.ExactLaws.{mean_of_chain}
use Rattle.claims.proofs.ContainsLaws.{call_contains}
use Rattle.claims.specs.Plotted.{bracket_in, ItemOf, QuartileDifference, lower_of, upper_of}

-- two points of the brackets are the two true quartiles
pub difference_of : (test25 test75 : ℕ → Bool) (r : PlotRecord) (a b : Bracket) → BracketContains test25 a → BracketContains test75 b
    → ShowsSpread (point_of a) (point_of b) r → r.has_iqr ≡ true → QuartileDifference test25 test75 r
unfolding BracketContains
difference_of test25 test75 r (At m) (At n) p q s e = record { first = m; third = n; first_true = p; third_true = q; ordered = s.0; difference = s.1 }
difference_of test25 test75 r (At m) (Between i j) p q s e = let z : ◌≡◌ {A = ℕ} 0 1 = cc s.1 in absurd (omega arith)
difference_of test25 test75 r (At m) (Open i) p q s e = let z : ◌≡◌ {A = ℕ} 0 1 = cc s.1 in absurd (omega arith)
difference_of test25 test75 r (At m) (Beyond i) p q s e = let z : ◌≡◌ {A = ℕ} 0 1 = cc s.1 in absurd (omega arith)
difference_of test25 test75 r (Between i j) b p q s e = let z : ◌≡◌ {A = ℕ} 0 1 = cc s.1 in absurd (omega arith)
difference_of test25 test75 r (Open i) b p q s e = let z : ◌≡◌ {A = ℕ} 0 1 = cc s.1 in absurd (omega arith)
difference_of test25 test75 r (Beyond i) b p q s e = let z : ◌≡◌ {A = ℕ} 0 1 = cc s.1 in absurd (omega arith)

-- bounds of a mean in units are bounds in parts of what it bounds: a mean of e / b
from_below : (u e b : ℕ) → u * b ≤ e * units_per_one → round_down u * b ≤ e * parts_per_one
from_below u e b m = below (round_down u) u e b (down_below u) m
  where
    below : (low u e b : ℕ) → low * units_per_part ≤ u → u * b ≤ e * units_per_one → low * b ≤ e * parts_per_one
    below low u e b k m = omega (arith, mul-le-mul_right b k)

from_above : (u e b : ℕ) → e * units_per_one ≤ u * b → e * parts_per_one ≤ round_up u * b
from_above u e b m = above (round_up u) u e b (up_above u) m
  where
    above : (high u e b : ℕ) → u ≤ high * units_per_part → e * units_per_one ≤ u * b → e * parts_per_one ≤ high * b
    above high u e b k m = omega (arith, mul-le-mul_right b k)

module _ (t : TableCall) (r : PlotRecord) (accepted : (box_plot_of t).answer ≡ Ok r) where
  made : PlotOf t r
  made = plot_of t r accepted

  call : AcceptedSummary t made.short
  call = accepted_summary t made.short made.answered

  shown : ShowsSummary made.short r
  shown = subst (λ (x : PlotRecord). ShowsSummary made.short x) (sym made.made) (record_shows call)

  -- a bracket of the summary is the operation's
  bracket_is : (q : Summary → Bracket) (percent : ℕ)
      → q (summary_by (pmf_of t) made.short.figures t.horizon) ≡ percentile_bracket (pmf_of t) made.short.figures.state_count percent
      → q made.short ≡ bracket_in t percent
  bracket_is q percent e = ap q call.is ∙ e ∙ ap (λ n. percentile_bracket (pmf_of t) n percent) call.table.count_is

  item : (percent : ℕ) → min_percent ≤ percent → percent ≤ max_percent → (p : Bracket) (x : PlotItem) → p ≡ bracket_in t percent → Shows p x → ItemOf t percent x
  item percent i j p x e s = record {
    bracket = accepted_bracket (pmf_of t) (state_count (rules_of t)) percent (rw call.table.count_is at (call.brackets percent i j));
    shows = rw e at s;
    contains = rw call.table.count_is at (call_contains call.table percent);
  }

  p5_is : made.short.p5 ≡ bracket_in t 5
  unfolding summary_by
  p5_is = bracket_is (λ s. s.p5) 5 refl

  p25_is : made.short.p25 ≡ bracket_in t 25
  unfolding summary_by
  p25_is = bracket_is (λ s. s.p25) 25 refl

  p50_is : made.short.p50 ≡ bracket_in t 50
  unfolding summary_by
  p50_is = bracket_is (λ s. s.p50) 50 refl

  p75_is : made.short.p75 ≡ bracket_in t 75
  unfolding summary_by
  p75_is = bracket_is (λ s. s.p75) 75 refl

  p95_is : made.short.p95 ≡ bracket_in t 95
  unfolding summary_by
  p95_is = bracket_is (λ s. s.p95) 95 refl

  -- Each item is of the bracket of exactly these chances, and contains its true percentile.
  pub items_contain : ItemOf t 5 r.p5 × ItemOf t 25 r.p25 × ItemOf t 50 r.p50 × ItemOf t 75 r.p75 × ItemOf t 95 r.p95
  items_contain = (
    item 5 (omega arith) (omega arith) _ _ p5_is shown.item5,
    item 25 (omega arith) (omega arith) _ _ p25_is shown.item25,
    item 50 (omega arith) (omega arith) _ _ p50_is shown.item50,
    item 75 (omega arith) (omega arith) _ _ p75_is shown.item75,
    item 95 (omega arith) (omega arith) _ _ p95_is shown.item95,
  )

  -- Where the brackets of 25 and 75 are points, their difference is held, exactly; else 0, and a mark that there is none.
  pub quartiles_shown : ShowsSpread (point_of (bracket_in t 25)) (point_of (bracket_in t 75)) r
  quartiles_shown = rw (p25_is, p75_is) at shown.quartiles

  -- Lower is the table's mean rounded down to 2^-36, upper the mean with its error bound rounded up to 2^-36: both are exact doubles.
  pub mean_values : HasValue r.lower false (lower_of t) parts_per_one × HasValue r.upper false (upper_of t) parts_per_one
  unfolding summary_by
  mean_values =
      let error : made.short.error_bound ≡ error_bound_of (state_count (rules_of t)) t.horizon =
      ap (λ (s : Summary). s.error_bound) call.is ∙ ap (λ n. error_bound_of n t.horizon) call.table.count_is in
      let mean = call.table.mean_is in
      (rw mean at shown.lower, rw (mean, error) at shown.upper)

  -- The exact mean of the run length cut at H lies from lower to upper.
  pub mean_within : (lower_of t * weight_total ^ t.horizon ≤ exact_mean (rules_of t) t.weights t.horizon * parts_per_one)
      × (exact_mean (rules_of t) t.weights t.horizon * parts_per_one ≤ upper_of t * weight_total ^ t.horizon)
  unfolding mean_error_bound
  mean_within =
      let exact = mean_of_chain (rules_of t) t.weights call.table.chain.bounds call.table.chain.few t.horizon in
      rw exact (
        from_below _ _ _ (mean_lower (chain_of t) call.table.proper t.horizon),
        from_above _ _ _ (mean_upper (chain_of t) call.table.proper t.horizon),
      )
