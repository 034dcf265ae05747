-- CLAIMS: the plot record, of what the box plot operation's contract is an equation with: nothing is asked but an accepted call.
use Rattle.std.specs.Prelude.{◌≡◌, true, false, ◌*◌, ◌^◌, ◌≤◌, Ok}
use Rattle.std.specs.Float.Ieee.Exact.{HasValue}
use Rattle.runlength.specs.Scale.{weight_total}
use Rattle.table.specs.Table.{TableCall, rules_of}
use Rattle.plot.specs.declared.PlotRecord.{PlotRecord}
use Rattle.plot.specs.MeanBounds.{parts_per_one}
use Rattle.plot.specs.Item.{point_of}
use Rattle.plot.specs.Plot.{box_plot_of}
use Rattle.plot.specs.Shown.{ShowsSpread}
use Rattle.claims.specs.Exact.{exact_mean, reached}
use Rattle.claims.specs.Plotted.{bracket_in, ItemOf, QuartileDifference, lower_of, upper_of}
use Rattle.claims.proofs.BoxPlotLaws.{difference_of}
use Rattle.claims.proofs.BoxPlotLaws.{items_contain as items_contain_proved, quartiles_shown as quartiles_shown_proved, mean_values as mean_values_proved}
use Rattle.claims.proofs.BoxPlotLaws.{mean_within as mean_within_proved}

module _ (t : TableCall) (r : PlotRecord) (accepted : (box_plot_of t).answer ≡ Ok r) where
  -- Each item is of the bracket of exactly these chances, and contains its true percentile.
  pub items_contain : ItemOf t 5 r.p5 × ItemOf t 25 r.p25 × ItemOf t 50 r.p50 × ItemOf t 75 r.p75 × ItemOf t 95 r.p95
  items_contain = items_contain_proved t r accepted

  -- Where the brackets of 25 and 75 are points, their difference is held, exactly; else 0, and a mark that there is none.
  pub quartiles_shown : ShowsSpread (point_of (bracket_in t 25)) (point_of (bracket_in t 75)) r
  quartiles_shown = quartiles_shown_proved t r accepted

  -- Where it is held, it is the difference of the two true percentiles.
  pub quartile_difference : r.has_iqr ≡ true → QuartileDifference (reached (rules_of t) t.weights 25) (reached (rules_of t) t.weights 75) r
  quartile_difference e =
      difference_of _ _ r (bracket_in t 25) (bracket_in t 75) items_contain.1.contains items_contain.3.contains quartiles_shown e

  -- Lower is the table's mean rounded down to 2^-36, upper the mean with its error bound rounded up to 2^-36: both are exact doubles.
  pub mean_values : HasValue r.lower false (lower_of t) parts_per_one × HasValue r.upper false (upper_of t) parts_per_one
  mean_values = mean_values_proved t r accepted

  -- The exact mean of the run length cut at H lies from lower to upper.
  pub mean_within : (lower_of t * weight_total ^ t.horizon ≤ exact_mean (rules_of t) t.weights t.horizon * parts_per_one)
      × (exact_mean (rules_of t) t.weights t.horizon * parts_per_one ≤ upper_of t * weight_total ^ t.horizon)
  mean_within = mean_within_proved t r accepted
