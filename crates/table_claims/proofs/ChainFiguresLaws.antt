-- The printed numbers are those of the chain that the table runs on. Laws.
use Rattle.std.specs.Prelude.{ℕ, suc, ◌+◌, ◌-◌, ◌*◌, ◌≤◌, ◌<◌, ◌≡◌, List}
use Rattle.std.proofs.Math.Path.{sym, ap}
use Rattle.std.proofs.Common.{◌∙◌, arith}
use Rattle.rules.specs.declared.Rule.{Rule}
use Rattle.rules.specs.Bounds.{max_states}
use Rattle.rules.specs.InBounds.{AllInBounds}
use Rattle.runlength.specs.Scale.{units_per_one}
use Rattle.runlength.specs.Sum.{sum}
use Rattle.runlength.specs.SumLaws.{sum_cong}
use Rattle.runlength.specs.Chain.{pmf, cdf, survival, restricted_mean}
use Rattle.chain.specs.TableChain.{explored_count, state_count, table_chain}
use Rattle.claims.specs.Counted.{OneOfEach}
use Rattle.claims.proofs.CountedLaws.{count_once}
use Rattle.claims.specs.ByRow.{row_chance, row_left, row_mean}
use Rattle.claims.proofs.ByRowLaws.{counts_rows, row_chance_lem, row_left_lem, row_mean_lem}
use Rattle.table_claims.specs.TableOutput.{Figures, RowFigures, FiguresHold, FiguresHoldByRow}

-- the numbers are the chain's
pub record ChainFigures (w : List ℕ) (rs : List Rule) (h : ℕ) (f : Figures) : Type 0 where
  pub states_are : f.count ≡ state_count rs
  pub pmf_is : (n : ℕ) → 1 ≤ n → n ≤ h → f.pmf n ≡ pmf (table_chain rs w) n
  pub cdf_is : (n : ℕ) → 1 ≤ n → n ≤ h → f.cdf n ≡ cdf (table_chain rs w) n
  pub survival_is : (n : ℕ) → 1 ≤ n → n ≤ h → f.survival n ≡ survival (table_chain rs w) n
  pub mean_is : f.whole * units_per_one + f.fraction ≡ restricted_mean (table_chain rs w) h

module _ (w : List ℕ) (rs : List Rule) (bounds : AllInBounds rs) (few : explored_count rs ≤ max_states) (h : ℕ) (f : Figures) (t : FiguresHoldByRow w rs h f) where
  count_is : f.count ≡ state_count rs
  count_is = count_once t.counts.each (counts_rows rs bounds few).each

  abbrev taken : ℕ → List ℕ
  taken = t.counts.rows

  each : OneOfEach rs taken (state_count rs)
  each = rw (← count_is) t.counts.each

  by_row : RowFigures w rs h f taken
  by_row = t.by_row taken t.counts.each

  chance_is : (k : ℕ) → k < h → f.pmf (suc k) ≡ pmf (table_chain rs w) (suc k)
  chance_is k l = by_row.chance k l ∙ ap (λ n. row_chance rs taken n w k) count_is ∙ sym (row_chance_lem rs bounds few taken each w k)

  by_is : (n : ℕ) → 1 ≤ n → n ≤ h → f.cdf n ≡ cdf (table_chain rs w) n
  unfolding cdf
  by_is n i j =
      by_row.by n i j ∙ ap (λ m. sum n (row_chance rs taken m w)) count_is
      ∙ sum_cong n _ _ (λ k l. sym (row_chance_lem rs bounds few taken each w k))

  left_is : (k : ℕ) → k < h → f.survival (suc k) ≡ survival (table_chain rs w) (suc k)
  left_is k l = by_row.left k l ∙ ap (λ n. row_left rs taken n w (suc k)) count_is ∙ sym (row_left_lem rs bounds few taken each w (suc k))

  -- from 1 on, for the numbers behind 0
  from_one : (P : ℕ → Type 0) → ((k : ℕ) → k < h → P (suc k)) → (n : ℕ) → 1 ≤ n → n ≤ h → P n
  from_one P p n i j = let e : suc (n - 1) ≡ n = omega arith in rw e at (p (n - 1) (omega arith))

  pub chain_figures : ChainFigures w rs h f
  chain_figures = record {
    states_are = count_is;
    pmf_is = from_one (λ n. f.pmf n ≡ pmf (table_chain rs w) n) chance_is;
    cdf_is = by_is;
    survival_is = from_one (λ n. f.survival n ≡ survival (table_chain rs w) n) left_is;
    mean_is = by_row.mean ∙ ap (λ n. row_mean rs taken n w h) count_is ∙ sym (row_mean_lem rs bounds few taken each w h);
  }

  -- so they hold by the chain too
  pub figures_by_chain : FiguresHold w rs h f
  figures_by_chain =
      let c = chain_figures in
      record {
        states_are = c.states_are;
        pmf_is = c.pmf_is;
        cdf_is = c.cdf_is;
        survival_is = c.survival_is;
        mean_is = c.mean_is;
        fraction_below = t.fraction_below;
        error_is = t.error_is;
        cdf_bounds = t.cdf_bounds;
        mean_bounds = t.mean_bounds;
        contains = t.contains;
      }
