-- CLAIMS: demand 2, of what the operations' contracts are equations with and for every input: nothing is asked but an accepted call.
use Rattle.std.specs.Prelude.{◌≡◌, true, List, [], ◌↔◌, ℕ, suc, ◌/◌, ◌%◌, ◌^◌, ◌≤◌, ◌<◌, length, get_or, Ok}
use Rattle.std.proofs.Common.{◌∙◌}
use Rattle.rules.specs.declared.RuleList.{RuleList}
use Rattle.rules.specs.Check.{no_rule, active_rules, check_of}
use Rattle.rules.specs.declared.Rule.{Rule}
use Rattle.rules.specs.Mask.{bit}
use Rattle.window.specs.ReferenceChart.{rule_holds, row_mask}
use Rattle.runlength.specs.Sum.{at, sum}
use Rattle.runlength.specs.SumLaws.{sum_cong}
use Rattle.runlength.specs.Chain.{cdf, cdf_of}
use Rattle.runlength.specs.Future.{EqualFuture}
use Rattle.monitor.specs.Step.{fresh_monitor}
use Rattle.monitor.specs.Calls.{monitor_answers}
use Rattle.monitor.proofs.AgreementLaws.{monitor_agrees, mask_names_rules as mask_names_rules_proved}
use Rattle.states.specs.States.{Met, states}
use Rattle.states.specs.Automata.{state_automaton}
use Rattle.chain.specs.TableChain.{explored_count, state_count}
use Rattle.chain.specs.ByState.{alike_states}
use Rattle.chain.specs.FuturesLaws.{alike_exactly}
use Rattle.table.specs.declared.TableFigures.{TableFigures}
use Rattle.table.specs.Table.{TableCall, rules_of, table_of, pmf_of, mean_of}
use Rattle.table.specs.AcceptedTable.{AcceptedTable}
use Rattle.table.proofs.AcceptedTableLaws.{accepted_table}
use Rattle.claims.specs.Named.{EachAnswered}
use Rattle.claims.proofs.NamedLaws.{chart_answered}
use Rattle.claims.specs.Counted.{QuietRow, CountsStates, ListsStates, SameFuture, OneOfEach, CountsFutures, CountsRows}
use Rattle.claims.proofs.CountedLaws.{count_once, counts_states, lists_states, counts_futures}
use Rattle.claims.specs.ByRow.{alike_rows, row_chance, row_left, row_mean}
use Rattle.claims.proofs.ByRowLaws.{counts_rows, alike_rows_exactly, row_chance_lem, row_left_lem, row_mean_lem}

-- ---- the monitor

-- For every accepted rule list and every list of calls: each accepted call is a signal exactly when some rule's T(k,m,Z) holds over the points
-- since the chart was cleared, this one among them; bit i of its mask is set exactly when rule i's does; no bit beyond the rules is ever set.
pub monitor_names : (l : RuleList) → check_of l ≡ Ok tt → (zs : List ℕ) → EachAnswered (active_rules l) [] zs (monitor_answers l fresh_monitor zs)
monitor_names l accepted zs = rw (monitor_agrees l accepted zs) (chart_answered (active_rules l) [] zs)

-- Bit i of the mask is set exactly when rule i's T(k,m,Z) holds over the row.
pub mask_names_rules : (rs : List Rule) (row : List ℕ) (i : ℕ) → i < length rs → row_mask rs row / 2 ^ i % 2 ≡ bit (rule_holds row (get_or rs i no_rule))
mask_names_rules = mask_names_rules_proved

-- ---- the table: every figure of an accepted call is that of the round-down steps over rows of the plain chart, one of each future

module _ (t : TableCall) (f : TableFigures) (accepted : (table_of t).answer ≡ Ok f) where
  call : AcceptedTable t f
  call = accepted_table t f accepted

  -- The number that 10 looks at counts exactly the states of the rows that all zone sequences with no signal make, before any is merged.
  pub explored_counted : CountsStates (rules_of t) (explored_count (rules_of t))
  explored_counted = counts_states (rules_of t) call.chain.bounds call.chain.few

  -- And the list explored has each of them once.
  pub explored_listed : ListsStates (rules_of t) (states (state_automaton (rules_of t))) (explored_count (rules_of t))
  explored_listed = lists_states (rules_of t) call.chain.bounds call.chain.few

  -- N counts exactly the futures that these rows have.
  pub states_counted : CountsFutures (rules_of t) f.state_count
  states_counted = rw call.count_is (counts_futures (rules_of t) call.chain.bounds call.chain.few)

  -- There are N of them, one of each future.
  pub rows_counted : CountsRows (rules_of t) f.state_count
  rows_counted = rw call.count_is (counts_rows (rules_of t) call.chain.bounds call.chain.few)

  -- No other number counts them.
  pub rows_counted_once : (n : ℕ) → CountsRows (rules_of t) n → n ≡ f.state_count
  rows_counted_once n c = count_once c.each rows_counted.each

  -- Two states that zone sequences meet with no signal are alike, so taken as one, exactly where they have equal futures.
  pub alike_futures : {r s : ℕ} → Met (state_automaton (rules_of t)) r → Met (state_automaton (rules_of t)) s
      → (alike_states (rules_of t) r s ≡ true) ↔ EqualFuture (state_automaton (rules_of t)) (state_automaton (rules_of t)) r s
  alike_futures p q = alike_exactly (rules_of t) call.chain.few p q

  -- Two quiet rows are taken as one exactly where every continuation first signals at the same point of the plain chart from both.
  pub alike_rows_futures : {r s : List ℕ} → QuietRow (rules_of t) r → QuietRow (rules_of t) s → (alike_rows (rules_of t) r s ≡ true) ↔ SameFuture (rules_of t) r s
  alike_rows_futures p q = alike_rows_exactly (rules_of t) call.chain.bounds call.chain.few p q

  -- For EVERY N quiet rows, one of each future, whichever are taken:
  module _ (rows : ℕ → List ℕ) (each : OneOfEach (rules_of t) rows f.state_count) where
    each_class : OneOfEach (rules_of t) rows (state_count (rules_of t))
    each_class = rw (← call.count_is) each

    -- The chance at n + 1 is what the rows signal then, divided once.
    pub chance_by_row : (n : ℕ) → n < t.horizon → at (table_of t).pmf_list n ≡ row_chance (rules_of t) rows f.state_count t.weights n
    chance_by_row n i =
        rw call.count_is (call.pmf_at n i ∙ row_chance_lem (rules_of t) call.chain.bounds call.chain.few rows each_class t.weights n)

    -- By n is the sum of the chances up to n.
    pub by_by_row : (n : ℕ) → n ≤ t.horizon → cdf_of (pmf_of t) n ≡ sum n (row_chance (rules_of t) rows f.state_count t.weights)
    unfolding cdf
    by_by_row n i =
        rw call.count_is
        (call.pmf_cdf n i ∙ sum_cong n _ _ (λ k l. row_chance_lem (rules_of t) call.chain.bounds call.chain.few rows each_class t.weights k))

    -- Left at n + 1 is the sum over the rows of their units then; so is left at the horizon.
    pub left_by_row : (n : ℕ) → n < t.horizon → at (table_of t).survival_list n ≡ row_left (rules_of t) rows f.state_count t.weights (suc n)
    left_by_row n i =
        rw call.count_is (call.survival_at n i ∙ row_left_lem (rules_of t) call.chain.bounds call.chain.few rows each_class t.weights (suc n))

    pub survival_by_row : f.survival ≡ row_left (rules_of t) rows f.state_count t.weights t.horizon
    survival_by_row =
        rw call.count_is (call.survival_is ∙ row_left_lem (rules_of t) call.chain.bounds call.chain.few rows each_class t.weights t.horizon)

    -- The cut mean is the sum of left from 0 to H - 1.
    pub mean_by_row : mean_of f ≡ row_mean (rules_of t) rows f.state_count t.weights t.horizon
    mean_by_row =
        rw call.count_is (call.mean_is ∙ row_mean_lem (rules_of t) call.chain.bounds call.chain.few rows each_class t.weights t.horizon)
