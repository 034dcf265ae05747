-- TO BELIEVE: what the plot record is claimed to show: each item, the quartiles' difference, the bounds of the mean. Definitions.
use Rattle.std.specs.Prelude.{◌≡◌, Bool, false, ℕ, ◌+◌, ◌-◌, ◌≤◌, Ok}
use Rattle.std.specs.Float.Ieee.Exact.{HasValue}
use Rattle.runlength.specs.Chain.{restricted_mean, error_bound_of}
use Rattle.runlength.specs.Percentile.{Percentile}
use Rattle.chain.specs.TableChain.{state_count}
use Rattle.table.specs.Table.{TableCall, rules_of, chain_of, pmf_of}
use Rattle.bracket.specs.declared.Bracket.{Bracket}
use Rattle.bracket.specs.Bracket.{percentile_bracket, bracket_of}
use Rattle.bracket.specs.Contains.{BracketContains}
use Rattle.plot.specs.declared.PlotItem.{PlotItem}
use Rattle.plot.specs.declared.PlotRecord.{PlotRecord}
use Rattle.plot.specs.MeanBounds.{round_down, round_up}
use Rattle.plot.specs.Shown.{Shows}
use Rattle.claims.specs.Exact.{reached}

-- the bracket of a percent by exactly the H chances as the call wrote them and this N
abbrev pub bracket_in : TableCall → ℕ → Bracket
bracket_in t percent = percentile_bracket (pmf_of t) (state_count (rules_of t)) percent

-- the bracket of exactly the H chances and this N is not refused, the item's doubles are exactly its numbers, and it contains the true
-- percentile
pub record ItemOf (t : TableCall) (percent : ℕ) (x : PlotItem) : Type 0 where
  pub bracket : bracket_of (pmf_of t) (state_count (rules_of t)) percent ≡ Ok (bracket_in t percent)
  pub shows : Shows (bracket_in t percent) x
  pub contains : BracketContains (reached (rules_of t) t.weights percent) (bracket_in t percent)

-- the two true quartiles, and a double that is exactly their difference
pub record QuartileDifference (test25 test75 : ℕ → Bool) (r : PlotRecord) : Type 0 where
  pub first : ℕ
  pub third : ℕ
  pub first_true : Percentile test25 first
  pub third_true : Percentile test75 third
  pub ordered : first ≤ third
  pub difference : HasValue r.iqr false (third - first) 1

-- the table's mean rounded down to 2^-36, and the mean with its error bound rounded up to 2^-36
abbrev pub lower_of : TableCall → ℕ
lower_of t = round_down (restricted_mean (chain_of t) t.horizon)

abbrev pub upper_of : TableCall → ℕ
upper_of t = round_up (restricted_mean (chain_of t) t.horizon + error_bound_of (state_count (rules_of t)) t.horizon)
