-- `plot::plot_record` meets its contract: each field by the function that makes it.
use Rattle.std.proofs.Common.{Option, ◌∙◌, ap}
use Rattle.std.specs.Prelude.{Float}
use Rattle.std.specs.Option.{is_some, unwrap_or}
use lib.Ieee.{of_bits, round}
use Rattle.plot.specs.Double.{nearest_to}
use Rattle.plot.specs.Plot.{record_of}
use Rattle.plot.proofs.plot_record.Goals as goal

pub returns : goal.returns
unfolding record_of nearest_to of_bits round
returns c =
    let spread = c.quartile_spread-range.ensures in
    let iqr = c.unwrap_or.ensures ∙ ap (λ (o : Option Float). unwrap_or o (nearest_to 0 1)) spread in
    let has_iqr = c.is_some.ensures ∙ ap (λ (o : Option Float). is_some o) spread in
    λ i. record {
      p5 = c.plot_item.ensures i;
      p25 = c.plot_item-2.ensures i;
      p50 = c.plot_item-3.ensures i;
      p75 = c.plot_item-4.ensures i;
      p95 = c.plot_item-5.ensures i;
      lower = c.lower_mean.ensures.nearest i;
      upper = c.upper_mean.ensures.nearest i;
      iqr = iqr i;
      has_iqr = has_iqr i;
    }
