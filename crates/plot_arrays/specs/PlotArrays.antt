-- TO BELIEVE: the plot record as two arrays. Definitions.
use Rattle.std.specs.Prelude.{ℕ, ◌+◌, ◌*◌, List, Float, set}
use Rattle.rules.specs.Mask.{bit}
use Rattle.plot.specs.declared.PlotItem.{PlotItem}
use Rattle.plot.specs.declared.PlotItem.TheVariants.{Point, Span, Open, Beyond}
use Rattle.plot.specs.declared.PlotRecord.{PlotRecord}

-- 1 for a point, 2 for a span, 3 for open, 4 for beyond
abbrev pub kind_of : PlotItem → ℕ
kind_of (Point x) = 1
kind_of (Span low high) = 2
kind_of (Open low) = 3
kind_of (Beyond h) = 4

-- an item's two doubles: a span has two, the others one that stands twice
abbrev pub first_of : PlotItem → Float
first_of (Point x) = x
first_of (Span low high) = low
first_of (Open low) = low
first_of (Beyond h) = h

abbrev pub second_of : PlotItem → Float
second_of (Point x) = x
second_of (Span low high) = high
second_of (Open low) = low
second_of (Beyond h) = h

abbrev pub item_as : ℕ → PlotItem → List Float → List Float
item_as i item values = set (set values (2 * i) (first_of item)) (2 * i + 1) (second_of item)

-- the array of six kinds: one for each of the percentiles 5, 25, 50, 75, 95, and 1 where there is an interquartile range
abbrev pub kinds_as : PlotRecord → List ℕ → List ℕ
kinds_as p kinds =
    set (set (set (set (set (set kinds 0 (kind_of p.p5)) 1 (kind_of p.p25)) 2 (kind_of p.p50)) 3 (kind_of p.p75)) 4 (kind_of p.p95)) 5 (bit p.has_iqr)

-- the array of thirteen doubles: two for each percentile, the mean's lower and upper value, the interquartile range
abbrev pub items_as : PlotRecord → List Float → List Float
items_as p values = item_as 4 p.p95 (item_as 3 p.p75 (item_as 2 p.p50 (item_as 1 p.p25 (item_as 0 p.p5 values))))

abbrev pub values_as : PlotRecord → List Float → List Float
values_as p values = set (set (set (items_as p values) 10 p.lower) 11 p.upper) 12 p.iqr
