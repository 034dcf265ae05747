-- What a step is refused by 5 for and a table by 10, and what a refused call leaves. Laws.
use Rattle.std.specs.Prelude.{ℕ, ◌+◌, ◌≤◌, ◌<◌, ◌≡◌, refl, Bool, true, false, ◌⊎◌, ◌↔◌, List, leb, length, Err, Ok, Result}
use Rattle.std.proofs.Common.{sym, ap, ◌∙◌, inl, inr, ⊎_elim, arith}
use Rattle.table.specs.declared.TableFigures.{TableFigures}
use Rattle.summary.specs.declared.Summary.{Summary}
use Rattle.rules.specs.declared.Rule.{Rule}
use Rattle.rules.specs.declared.RuleList.{RuleList}
use Rattle.rules.specs.declared.refusal.Refusal.{Refusal}
use Rattle.rules.specs.Bounds.{zone_count, max_number, max_states}
use Rattle.rules.specs.Refusal.{number_of, bad_state, bad_count, too_many_states, short_list}
use Rattle.rules.specs.Check.{or_else, unless, active_rules, check_of}
use Rattle.rules.proofs.CheckLaws.{accepted}
use Rattle.rules.specs.InBounds.{AllInBounds}
use Rattle.runlength.specs.Scale.{min_horizon, max_horizon, weight_total}
use Rattle.runlength.specs.Sum.{at, sum}
use Rattle.monitor.specs.declared.Monitor.{Monitor}
use Rattle.monitor.specs.declared.Step.{Step}
use Rattle.window.specs.State.{valid_state, move_of}
use Rattle.window.specs.CanStand.{StateCanStand}
use Rattle.window.proofs.ValidLaws.{state_exactly}
use Rattle.window.specs.WindowLaws.{le_or_lt}
use Rattle.monitor.specs.Step.{accepted_step, step_of}
use Rattle.monitor.proofs.StepLaws.{rules_accepted, answered, step_bad_state, step_bad_count, step_move}
use Rattle.states.specs.States.{states}
use Rattle.states.specs.Automata.{state_automaton}
use Rattle.chain.specs.TableChain.{explored_count}
use Rattle.table.specs.Table.{TableCall, CallResult, rules_of, table_check, table_of}
use Rattle.table.proofs.TableLaws.{chain_refused, refused_check}
use Rattle.table.proofs.ChainCheckLaws.{too_many_states_lem, chain_passes}
use Rattle.summary.specs.Summary.{summary_of}
use Rattle.summary.proofs.SummaryLaws.{refused_table_lem}
use Rattle.plot.specs.Plot.{plot_by, box_plot_of}
use Rattle.claims.specs.Counted.{ListsStates, TooManyStates}
use Rattle.claims.proofs.CountedLaws.{lists_states, too_many}

-- ---- refusal 5

module _ (rs : List Rule) (m : Monitor) (z : ℕ) (zone : z < zone_count) where
  valid_taken : valid_state m.count rs m.state ≡ true → accepted_step rs m z ≡ Err bad_state → ⊥
  valid_taken v e =
      ⊎_elim
      (λ (h : max_number ≤ m.count).
      let q : ◌≡◌ {A = Result Step Refusal} (Err bad_count) (Err bad_state) = sym (step_bad_count rs m z zone v h) ∙ e in
      let n : bad_count ≡ bad_state = cc in
      omega (arith, ap (λ (x : Refusal). (number_of x)) n))
      (λ (h : m.count < max_number).
      answered (move_of rs m.state z) (m.count + 1) bad_state (sym (step_move rs m z zone v h) ∙ e))
      (le_or_lt max_number m.count)

-- With accepted rules and a zone that exists, a step is refused by 5 exactly when the state cannot be given: when it is not so that no window has k
-- or more hits, no hit should be forgotten, none is older than the points counted and none stands in a window beyond the rules.
pub refused_by_5 : (l : RuleList) → check_of l ≡ Ok tt → (m : Monitor) (z : ℕ) → z < zone_count
    → (step_of l m z ≡ Err bad_state) ↔ (StateCanStand m.count (active_rules l) m.state → ⊥)
refused_by_5 l ok m z zone = (to, from)
  where
    to : step_of l m z ≡ Err bad_state → StateCanStand m.count (active_rules l) m.state → ⊥
    to e g =
        valid_taken (active_rules l) m z zone ((state_exactly m.count (active_rules l) m.state).1 g) (sym (rules_accepted l ok m z) ∙ e)

    from : (StateCanStand m.count (active_rules l) m.state → ⊥) → step_of l m z ≡ Err bad_state
    from n = go (valid_state m.count (active_rules l) m.state) refl
      where
        go : (b : Bool) → valid_state m.count (active_rules l) m.state ≡ b → step_of l m z ≡ Err bad_state
        go true v = absurd (n ((state_exactly m.count (active_rules l) m.state).0 v))
        go false v = rules_accepted l ok m z ∙ step_bad_state (active_rules l) m z zone v

-- ---- refusal 10

lt_or_le : (a b : ℕ) → (a < b) ⊎ (b ≤ a)
lt_or_le a b = ⊎_elim (λ (h : b ≤ a). inr h) (λ (h : a < b). inl h) (le_or_lt b a)

-- a check of the two lists gives 11 alone
only_eleven : (a b : Bool) → or_else (unless a short_list) (unless b short_list) ≡ Err (too_many_states 0) → ⊥
only_eleven true true e = let z : ◌≡◌ {A = ℕ} 0 1 = cc in omega arith
only_eleven true false e = let n : short_list ≡ too_many_states 0 = cc in omega (arith, ap (λ (x : Refusal). (number_of x)) n)
only_eleven false b e = let n : short_list ≡ too_many_states 0 = cc in omega (arith, ap (λ (x : Refusal). (number_of x)) n)

module _ (t : TableCall) (rules : check_of t.list ≡ Ok tt) (weights : sum zone_count (at t.weights) ≡ weight_total)
    (some : min_horizon ≤ t.horizon) (most : t.horizon ≤ max_horizon) where
  bounds : AllInBounds (rules_of t)
  bounds = (accepted t.list rules).2

  -- where the states are not too many only 11 is left
  not_ten : explored_count (rules_of t) ≤ max_states → (table_of t).answer ≡ Err (too_many_states 0) → ⊥
  unfolding table_check
  not_ten few e =
      only_eleven (leb t.horizon (length t.pmf_before)) (leb t.horizon (length t.survival_before))
      (rw (chain_passes t.list t.weights t.horizon rules weights some most few) at (refused_check t (too_many_states 0) e))

  -- With 2, 3, 4, 8 and 9 passed the table answers 10 exactly where there are 1,025 different states of quiet rows.
  pub refused_by_10 : ((table_of t).answer ≡ Err (too_many_states 0)) ↔ TooManyStates (rules_of t)
  refused_by_10 = (to, from)
    where
      to : (table_of t).answer ≡ Err (too_many_states 0) → TooManyStates (rules_of t)
      to e = ⊎_elim
          (λ (h : max_states < explored_count (rules_of t)). (too_many (rules_of t) bounds).0 h)
          (λ (h : explored_count (rules_of t) ≤ max_states). absurd (not_ten h e))
          (lt_or_le max_states (explored_count (rules_of t)))

      from : TooManyStates (rules_of t) → (table_of t).answer ≡ Err (too_many_states 0)
      from c =
          ap (λ (r : CallResult (Result TableFigures Refusal)). r.answer)
          (sym (chain_refused t
          (too_many_states_lem t.list t.weights t.horizon rules weights some most ((too_many (rules_of t) bounds).1 c))))

  -- And else they are counted.
  pub counted_unless_10 : ((table_of t).answer ≡ Err (too_many_states 0) → ⊥)
      → ListsStates (rules_of t) (states (state_automaton (rules_of t))) (explored_count (rules_of t))
  counted_unless_10 other = ⊎_elim
      (λ (h : max_states < explored_count (rules_of t)). absurd (other (refused_by_10.1 ((too_many (rules_of t) bounds).0 h))))
      (λ (h : explored_count (rules_of t) ≤ max_states). lists_states (rules_of t) bounds h)
      (lt_or_le max_states (explored_count (rules_of t)))

-- ---- a refusal alters nothing

-- A refused call of the table leaves both lists as they were lent.
pub refused_table_keeps : (t : TableCall) (x : Refusal) → (table_of t).answer ≡ Err x
    → ((table_of t).pmf_list ≡ t.pmf_before) × ((table_of t).survival_list ≡ t.survival_before)
unfolding table_of
refused_table_keeps t x e = rw (refused_check t x e) (refl, refl)

-- A plot record is refused as its summary is.
pub plot_refused : (t : TableCall) (x : Refusal) → (box_plot_of t).answer ≡ Err x → (summary_of t).answer ≡ Err x
unfolding box_plot_of plot_by
plot_refused t x e = go (summary_of t).answer refl e
  where
    go : (a : Result Summary Refusal) → (summary_of t).answer ≡ a → plot_by a ≡ Err x → (summary_of t).answer ≡ Err x
    go (Ok s) q d = absurd (let z : ◌≡◌ {A = ℕ} 0 1 = cc in omega arith)
    go (Err y) q d = let same : y ≡ x = cc in q ∙ ap Err same

-- So does a refused call of the summary, and of the plot record.
pub refused_summary_keeps : (t : TableCall) (x : Refusal) → (summary_of t).answer ≡ Err x
    → ((summary_of t).pmf_list ≡ t.pmf_before) × ((summary_of t).survival_list ≡ t.survival_before)
unfolding summary_of
refused_summary_keeps t x e = refused_table_keeps t x (refused_table_lem t x e)

pub refused_plot_keeps : (t : TableCall) (x : Refusal) → (box_plot_of t).answer ≡ Err x
    → ((box_plot_of t).pmf_list ≡ t.pmf_before) × ((box_plot_of t).survival_list ≡ t.survival_before)
unfolding box_plot_of
refused_plot_keeps t x e = refused_summary_keeps t x (plot_refused t x e)
