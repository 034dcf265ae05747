-- TO BELIEVE: what a plot record shows, by the values of its doubles. Definitions.
use Rattle.std.specs.Prelude.{◌≡◌, true, false, ℕ, ◌-◌, ◌≤◌, Float, Option, Some, None}
use Rattle.std.specs.Float.Ieee.Exact.{HasValue}
use Rattle.bracket.specs.declared.Bracket.{Bracket}
use Rattle.bracket.specs.declared.Bracket.TheVariants as bracket
use Rattle.summary.specs.declared.Summary.{Summary}
use Rattle.plot.specs.declared.PlotItem.{PlotItem}
use Rattle.plot.specs.declared.PlotItem.TheVariants as item
use Rattle.plot.specs.declared.PlotRecord.{PlotRecord}
use Rattle.plot.specs.MeanBounds.{parts_per_one}
use Rattle.plot.specs.Item.{point_of}
use Rattle.plot.specs.Plot.{lower_parts, upper_parts}

-- the item's doubles are finite and exactly the bracket's numbers
pub data Shows : Bracket → PlotItem → Type 0 where
  point : (n : ℕ) (x : Float) → HasValue x false n 1 → Shows (bracket.At n) (item.Point x)
  span : (low high : ℕ) (x y : Float) → HasValue x false low 1 → HasValue y false high 1
      → Shows (bracket.Between low high) (item.Span x y)
  from : (low : ℕ) (x : Float) → HasValue x false low 1 → Shows (bracket.Open low) (item.Open x)
  beyond : (h : ℕ) (x : Float) → HasValue x false h 1 → Shows (bracket.Beyond h) (item.Beyond x)

-- the double is exactly the difference of two points, which stand in order, and marked as held; with one point or none it is 0 and not held
abbrev pub ShowsSpread : Option ℕ → Option ℕ → PlotRecord → Type 0
ShowsSpread (Some a) (Some b) r = (a ≤ b) × HasValue r.iqr false (b - a) 1 × (r.has_iqr ≡ true)
ShowsSpread (Some a) None r = HasValue r.iqr false 0 1 × (r.has_iqr ≡ false)
ShowsSpread None q r = HasValue r.iqr false 0 1 × (r.has_iqr ≡ false)

-- the record shows a summary: its five brackets, their quartiles' difference, and its mean's two bounds
pub record ShowsSummary (s : Summary) (r : PlotRecord) : Type 0 where
  pub item5 : Shows s.p5 r.p5
  pub item25 : Shows s.p25 r.p25
  pub item50 : Shows s.p50 r.p50
  pub item75 : Shows s.p75 r.p75
  pub item95 : Shows s.p95 r.p95
  pub quartiles : ShowsSpread (point_of s.p25) (point_of s.p75) r
  pub lower : HasValue r.lower false (lower_parts s) parts_per_one
  pub upper : HasValue r.upper false (upper_parts s) parts_per_one
