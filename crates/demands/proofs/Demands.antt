-- CLAIMS: the customer's three demands, clause by clause, in their words and in their order. The fields of a record are
-- the clauses, and the theorem behind it says that they hold of every call.
use Rattle.std.specs.Prelude.{ℕ, suc, ◌+◌, ◌-◌, ◌*◌, ◌/◌, ◌^◌, ◌≤◌, ◌<◌, ◌≡◌, true, List, [], ◌↔◌, ℤ, Err, Ok}
use Rattle.rules.specs.declared.RuleList.{RuleList}
use Rattle.rules.specs.declared.refusal.Refusal.{Refusal}
use Rattle.rules.specs.Check.{active_rules, check_of}
use Rattle.runlength.specs.Scale.{max_horizon, weight_total, units_per_one}
use Rattle.runlength.specs.Sum.{at, sum}
use Rattle.runlength.specs.Chain.{cdf_of}
use Rattle.window.specs.ReferenceChart.{chart_answers}
use Rattle.monitor.specs.declared.Monitor.{Monitor}
use Rattle.monitor.specs.declared.Step.{Step}
use Rattle.monitor.specs.Zone.{zone_of}
use Rattle.monitor.specs.Step.{fresh_monitor, step_of}
use Rattle.monitor.specs.Calls.{monitor_answers}
use Rattle.batch.specs.Batch.{batch_of, Ends}
use Rattle.table.specs.declared.TableFigures.{TableFigures}
use Rattle.table.specs.Table.{TableCall, rules_of, table_of, pmf_of, mean_of}
use Rattle.summary.specs.Summary.{summary_of}
use Rattle.plot.specs.Plot.{box_plot_of}
use Rattle.bracket.specs.Bracket.{bracket_of}
use Rattle.bracket.specs.Contains.{ContainsPercentile}
use Rattle.shift.specs.Shift.{shift_of}
use Rattle.write.specs.Refused.{refused_line}
use Rattle.write.specs.Printed.{printed_bytes}
use Rattle.table_report.specs.TableReport.{table_printed}
use Rattle.monitor_report.specs.MonitorReport.{monitor_printed}
use Rattle.weights_report.specs.WeightsReport.{weights_printed}
use Rattle.call_arrays.specs.BatchArrays.{batch_checked}
use Rattle.claims.specs.Named.{EachAnswered}
use Rattle.claims.specs.Counted.{QuietRow, SameFuture, OneOfEach, CountsRows, NoneFewer}
use Rattle.claims.specs.ByRow.{alike_rows, row_chance, row_left, row_mean}
use Rattle.claims.specs.Exact.{exact_sum, monitor_sum, monitor_mean, reached, monitor_reached}
use Rattle.claims.proofs.Demand2 as two
use Rattle.claims.proofs.Demand3 as three
use Rattle.claims.proofs.FewestStates.{none_fewer_states}
use Rattle.table_claims.specs.TableOutput.{TableProgramByRow}
use Rattle.table_claims.proofs.TableProgram.{table_program_by_row}
use Rattle.monitor_claims.specs.MonitorOutput.{MonitorProgram}
use Rattle.monitor_claims.proofs.MonitorProgram.{monitor_program}
use Rattle.demands.specs.Order.{ListOrder, ZoneOrder, StepOrder, BatchOrder, TableOrder, BracketOrder, ShiftOrder}
use Rattle.demands.specs.TextOrder.{Told, TableTextOrder, MonitorTextOrder, WeightsTextOrder}
use Rattle.demands.specs.Kept.{OperationsKeep, ExportedKeep}
use Rattle.demands.proofs.AnswerOrderLaws as answer
use Rattle.demands.proofs.TextOrderLaws as text
use Rattle.demands.specs.KeptLaws.{operations_keep, exported_keep}

-- an accepted rule list; an accepted call of the table with its figures, of which N, and its horizon H
abbrev pub AcceptedList : RuleList → Type 0
AcceptedList l = check_of l ≡ Ok tt

abbrev pub Tabled : TableCall → TableFigures → Type 0
Tabled t f = (table_of t).answer ≡ Ok f

abbrev pub N : TableFigures → ℕ
N f = f.state_count

abbrev pub H : TableCall → ℕ
H t = t.horizon

-- 1. 'Every public operation ends on every input, checks all it is given': each is a function of all that it is given.
-- Its contract is an equation with that function and asks nothing of the caller, and the proof of a contract shows that
-- the call returns.
pub record Demand1 : Type 0 where
  -- 'and refuses by a number whose condition and place in the order are fixed': by x exactly where x is the first of
  -- the operation's order that holds
  pub list : (l : RuleList) (x : Refusal) → (check_of l ≡ Err x) ↔ ListOrder l x
  pub zone : (r c : ℤ) (sigma : ℕ) (x : Refusal) → (zone_of r c sigma ≡ Err x) ↔ ZoneOrder sigma x
  pub step : (l : RuleList) (m : Monitor) (z : ℕ) (x : Refusal) → (step_of l m z ≡ Err x) ↔ StepOrder l m z x
  -- a batch as its first reading would be, also where it has none; else it ends by itself, or at a full count behind
  -- readings that it took
  pub batch : (l : RuleList) (m : Monitor) (c : ℤ) (sigma : ℕ) (rs : List ℤ) (x : Refusal)
      → (batch_checked (batch_of l m c sigma rs) ≡ Err x) ↔ BatchOrder l m sigma x
  pub batch_else : (l : RuleList) (m : Monitor) (c : ℤ) (sigma : ℕ) (rs : List ℤ)
      → batch_checked (batch_of l m c sigma rs) ≡ Ok tt → Ends (batch_of l m c sigma rs)
  pub table : (t : TableCall) (x : Refusal) → ((table_of t).answer ≡ Err x) ↔ TableOrder t x
  pub summary : (t : TableCall) (x : Refusal) → ((summary_of t).answer ≡ Err x) ↔ TableOrder t x
  pub plot : (t : TableCall) (x : Refusal) → ((box_plot_of t).answer ≡ Err x) ↔ TableOrder t x
  pub bracket : (chances : List ℕ) (n p : ℕ) (x : Refusal)
      → (bracket_of chances n p ≡ Err x) ↔ BracketOrder chances n p x
  pub shift : (s : ℤ) (x : Refusal) → (shift_of s ≡ Err x) ↔ ShiftOrder s x
  -- a program prints the line of a refusal, and nothing else, exactly where that is the first of the text's order
  pub table_program_refuses : (s : List ℕ) (n place : ℕ)
      → (printed_bytes (table_printed s) ≡ refused_line n place) ↔ Told (TableTextOrder s) n place
  pub monitor_program_refuses : (s : List ℕ) (n place : ℕ)
      → (printed_bytes (monitor_printed s) ≡ refused_line n place) ↔ Told (MonitorTextOrder s) n place
  pub weights_program_refuses : (s : List ℕ) (n place : ℕ)
      → (printed_bytes (weights_printed s) ≡ refused_line n place) ↔ Told (WeightsTextOrder s) n place
  -- 'a refusal alters no lent buffer'
  pub operations : OperationsKeep
  pub exported : ExportedKeep

-- 2. The figures of an accepted call are those of the round-down steps over these rows of zones.
pub record RoundDown (t : TableCall) (f : TableFigures) (rows : ℕ → List ℕ) : Type 0 where
  pub chance : (n : ℕ) → n < H t → at (table_of t).pmf_list n ≡ row_chance (rules_of t) rows (N f) t.weights n
  pub by : (n : ℕ) → n ≤ H t → cdf_of (pmf_of t) n ≡ sum n (row_chance (rules_of t) rows (N f) t.weights)
  pub left : (n : ℕ) → n < H t → at (table_of t).survival_list n ≡ row_left (rules_of t) rows (N f) t.weights (suc n)
  pub left_last : f.survival ≡ row_left (rules_of t) rows (N f) t.weights (H t)
  pub mean : mean_of f ≡ row_mean (rules_of t) rows (N f) t.weights (H t)

pub record Demand2 : Type 1 where
  -- 'The monitor signals at a point, and names a rule, exactly when that rule's T(k,m,Z) holds over the points since
  -- the chart was cleared'
  pub names : (l : RuleList) → AcceptedList l → (zs : List ℕ)
      → EachAnswered (active_rules l) [] zs (monitor_answers l fresh_monitor zs)
  -- 'and every figure of the run-length table is the one that document 01's round-down steps give, to the last unit':
  -- over N rows of zones with no signal, one of each future, whichever are taken
  pub figures : (t : TableCall) (f : TableFigures) → Tabled t f → (rows : ℕ → List ℕ) → OneOfEach (rules_of t) rows (N f)
      → RoundDown t f rows
  -- there are such rows, of N and of no other number; the steps take two rows as one exactly where the plain chart has
  -- the same future from both; no chart moved by zones alone that first signals on the same sequences has fewer states
  pub standings : (t : TableCall) (f : TableFigures) → Tabled t f → CountsRows (rules_of t) (N f)
  pub standings_once : (t : TableCall) (f : TableFigures) → Tabled t f → (n : ℕ) → CountsRows (rules_of t) n → n ≡ N f
  pub alike : (t : TableCall) (f : TableFigures) → Tabled t f → {r s : List ℕ} → QuietRow (rules_of t) r
      → QuietRow (rules_of t) s → (alike_rows (rules_of t) r s ≡ true) ↔ SameFuture (rules_of t) r s
  pub fewest : (t : TableCall) (f : TableFigures) → Tabled t f → NoneFewer (rules_of t) (N f)
  -- what the programs print: a refusal's line, or the lines of answers and of figures of which all this holds
  pub monitor_prints : (s : List ℕ) → MonitorProgram s (printed_bytes (monitor_printed s))
  pub table_prints : (s : List ℕ) → TableProgramByRow s (printed_bytes (table_printed s))

-- 3. The monitor and the table.
pub record Demand3 : Type 0 where
  -- 'for every list of monitor calls with one accepted rule list, from a fresh monitor and refused calls included, the
  -- answers agree with those of document 01's plain chart in refusal, quiet or signal, count and mask'
  pub agree : (l : RuleList) → AcceptedList l → (zs : List ℕ)
      → monitor_answers l fresh_monitor zs ≡ chart_answers (active_rules l) [] zs
  -- 'Feed a fresh monitor every zone sequence of length n, each call getting what the last one returned; weigh each
  -- sequence by the product of its zones' chances, and add up those that have signalled': `monitor_sum`
  pub added_up : (l : RuleList) → AcceptedList l → (n : ℕ) → n ≤ max_horizon → (w : List ℕ)
      → monitor_sum l w n ≡ exact_sum (active_rules l) w n
  -- 'For all accepted weights, every accepted rule list with N standings and each n from 1 to the horizon H, the
  -- table's chance of a signal by n never exceeds that exact sum'
  pub not_over : (t : TableCall) (f : TableFigures) → Tabled t f → (n : ℕ) → 1 ≤ n → n ≤ H t
      → cdf_of (pmf_of t) n * weight_total ^ n ≤ monitor_sum t.list t.weights n * units_per_one
  -- 'and falls short of it by less than n × (N + 1) units of 2^-60'
  pub short_by_less : (t : TableCall) (f : TableFigures) → Tabled t f → (n : ℕ) → 1 ≤ n → n ≤ H t
      → monitor_sum t.list t.weights n * units_per_one < (cdf_of (pmf_of t) n + n * (N f + 1)) * weight_total ^ n
  -- 'For every percent from 1 to 99, the bracket taken from the table's H chances with this N contains the true
  -- percentile': of the exact sum, for every n; as far as the table goes that is the monitor's
  pub contains : (t : TableCall) (f : TableFigures) → Tabled t f → (p : ℕ) → 1 ≤ p → p ≤ 99
      → ContainsPercentile (reached (rules_of t) t.weights p) (bracket_of (pmf_of t) (N f) p)
  pub reaches : (t : TableCall) (f : TableFigures) → Tabled t f → (p n : ℕ) → 1 ≤ n → n ≤ H t
      → monitor_reached t.list t.weights p n ≡ reached (rules_of t) t.weights p n
  -- 'and the run length cut at H has a mean at or above the table's'
  pub mean_over : (t : TableCall) (f : TableFigures) → Tabled t f
      → mean_of f * weight_total ^ H t ≤ monitor_mean t.list t.weights (H t) * units_per_one
  -- 'by at most N × H × (H - 1) / 2 units'
  pub mean_within : (t : TableCall) (f : TableFigures) → Tabled t f
      → monitor_mean t.list t.weights (H t) * units_per_one
      ≤ (mean_of f + N f * H t * (H t - 1) / 2) * weight_total ^ H t

pub demand_1 : Demand1
demand_1 = record {
  list = answer.list;
  zone = answer.zone;
  step = answer.step;
  batch = answer.batch;
  batch_else = answer.batch_else;
  table = answer.table;
  summary = answer.summary;
  plot = answer.plot;
  bracket = answer.bracket;
  shift = answer.shift;
  table_program_refuses = text.table_text_order;
  monitor_program_refuses = text.monitor_text_order;
  weights_program_refuses = text.weights_text_order;
  operations = operations_keep;
  exported = exported_keep;
}

pub demand_2 : Demand2
demand_2 = record {
  names = two.monitor_names;
  figures = λ t f e rows each. record {
    chance = two.chance_by_row t f e rows each;
    by = two.by_by_row t f e rows each;
    left = two.left_by_row t f e rows each;
    left_last = two.survival_by_row t f e rows each;
    mean = two.mean_by_row t f e rows each;
  };
  standings = two.rows_counted;
  standings_once = two.rows_counted_once;
  alike = λ t f e p q. two.alike_rows_futures t f e p q;
  fewest = none_fewer_states;
  monitor_prints = monitor_program;
  table_prints = table_program_by_row;
}

pub demand_3 : Demand3
demand_3 = record {
  agree = three.monitor_agrees;
  added_up = three.monitor_sum_lem;
  not_over = λ t f e n i j. (three.monitor_bounds t f e n i j).0;
  short_by_less = λ t f e n i j. (three.monitor_bounds t f e n i j).1;
  contains = three.bracket_contains_percentile;
  reaches = three.monitor_reaches;
  mean_over = λ t f e. (three.monitor_mean_bounds t f e).0;
  mean_within = λ t f e. (three.monitor_mean_bounds t f e).1;
}
