-- What a summary is made of, and what an accepted one has. Working definitions.
use Rattle.std.specs.Prelude.{◌≡◌, List, ℕ, ◌≤◌}
use Rattle.rules.specs.Bounds.{max_states}
use Rattle.runlength.specs.Scale.{min_horizon, max_horizon}
use Rattle.table.specs.Table.{TableCall, pmf_of}
use Rattle.table.specs.AcceptedTable.{AcceptedTable}
use Rattle.bracket.specs.Limits.{min_percent, max_percent}
use Rattle.bracket.specs.AcceptedBracket.{AcceptedBracket}
use Rattle.summary.specs.declared.Summary.{Summary}
use Rattle.summary.specs.Summary.{summary_by}
use Rattle.summary.specs.ErrorBoundLaws.{max_error_bound}

-- chances whose every bracket is accepted, with so many states and this horizon
pub record Summarizable (pmf : List ℕ) (count h : ℕ) : Type 0 where
  pub few : count ≤ max_states
  pub some_horizon : min_horizon ≤ h
  pub most_horizon : h ≤ max_horizon
  pub brackets : (p : ℕ) → min_percent ≤ p → p ≤ max_percent → AcceptedBracket pmf count p

-- the summary of an accepted table call, which no bracket of it is refused
pub record AcceptedSummary (t : TableCall) (s : Summary) : Type 0 where
  pub table : AcceptedTable t s.figures
  pub is : s ≡ summary_by (pmf_of t) s.figures t.horizon
  pub brackets : (p : ℕ) → min_percent ≤ p → p ≤ max_percent → AcceptedBracket (pmf_of t) s.figures.state_count p
  pub error_most : s.error_bound ≤ max_error_bound
