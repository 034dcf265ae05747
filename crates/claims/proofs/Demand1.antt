-- CLAIMS: demand 1, where a definition alone does not say it: what refusals 5 and 10 are for, and that a refused call alters no lent list. The order
-- of every operation's refusals is on the page of demands.
use Rattle.std.specs.Prelude.{ℕ, ◌≤◌, ◌<◌, ◌≡◌, ◌↔◌, Err, Ok}
use Rattle.rules.specs.declared.RuleList.{RuleList}
use Rattle.rules.specs.declared.refusal.Refusal.{Refusal}
use Rattle.rules.specs.Bounds.{zone_count}
use Rattle.rules.specs.Refusal.{bad_state, too_many_states}
use Rattle.rules.specs.Check.{active_rules, check_of}
use Rattle.runlength.specs.Scale.{min_horizon, max_horizon, weight_total}
use Rattle.runlength.specs.Sum.{at, sum}
use Rattle.monitor.specs.declared.Monitor.{Monitor}
use Rattle.window.specs.CanStand.{StateCanStand}
use Rattle.monitor.specs.Step.{step_of}
use Rattle.states.specs.States.{states}
use Rattle.states.specs.Automata.{state_automaton}
use Rattle.chain.specs.TableChain.{explored_count}
use Rattle.table.specs.Table.{TableCall, rules_of, table_of}
use Rattle.plot.specs.Plot.{box_plot_of}
use Rattle.claims.specs.Counted.{ListsStates, TooManyStates}
use Rattle.claims.proofs.RefusedCallLaws.{refused_by_5 as refused_by_5_proved, refused_by_10 as refused_by_10_proved, counted_unless_10 as counted_unless_10_proved}
use Rattle.claims.proofs.RefusedCallLaws.{refused_table_keeps as refused_table_keeps_proved, refused_plot_keeps as refused_plot_keeps_proved}

-- With accepted rules and a zone that exists, a step is refused by 5 exactly when the state cannot be given: when it is not so that no window has k
-- or more hits, no hit should be forgotten, none is older than the points counted and none stands in a window beyond the rules.
pub refused_by_5 : (l : RuleList) → check_of l ≡ Ok tt → (m : Monitor) (z : ℕ) → z < zone_count
    → (step_of l m z ≡ Err bad_state) ↔ (StateCanStand m.count (active_rules l) m.state → ⊥)
refused_by_5 = refused_by_5_proved

module _ (t : TableCall) (rules : check_of t.list ≡ Ok tt) (weights : sum zone_count (at t.weights) ≡ weight_total)
    (some : min_horizon ≤ t.horizon) (most : t.horizon ≤ max_horizon) where
  -- With 2, 3, 4, 8 and 9 passed the table answers 10 exactly where there are 1,025 different states of quiet rows.
  pub refused_by_10 : ((table_of t).answer ≡ Err (too_many_states 0)) ↔ TooManyStates (rules_of t)
  refused_by_10 = refused_by_10_proved t rules weights some most

  -- And else they are counted, before any is merged: the list explored has each of them once.
  pub counted_unless_10 : ((table_of t).answer ≡ Err (too_many_states 0) → ⊥)
      → ListsStates (rules_of t) (states (state_automaton (rules_of t))) (explored_count (rules_of t))
  counted_unless_10 = counted_unless_10_proved t rules weights some most

-- ---- a refusal alters nothing

-- A refused call of the table leaves both lists as they were lent.
pub refused_table_keeps : (t : TableCall) (x : Refusal) → (table_of t).answer ≡ Err x
    → ((table_of t).pmf_list ≡ t.pmf_before) × ((table_of t).survival_list ≡ t.survival_before)
refused_table_keeps = refused_table_keeps_proved

-- So does a refused call of the plot record.
pub refused_plot_keeps : (t : TableCall) (x : Refusal) → (box_plot_of t).answer ≡ Err x
    → ((box_plot_of t).pmf_list ≡ t.pmf_before) × ((box_plot_of t).survival_list ≡ t.survival_before)
refused_plot_keeps = refused_plot_keeps_proved
