-- The figures of an accepted call of the table by state, over the states that differ: the chain's own steps, one state of the monitor at a time. Laws.
use Rattle.std.specs.Prelude.{ℕ, suc, ◌/◌, ◌<◌, ◌≡◌, true, ◌↔◌, Ok}
use Rattle.std.proofs.Common.{◌∙◌}
use Rattle.runlength.specs.Scale.{weight_total}
use Rattle.runlength.specs.Sum.{at, sum}
use Rattle.runlength.specs.SumLaws.{sum_cong}
use Rattle.runlength.specs.Chain.{restricted_mean}
use Rattle.runlength.specs.Future.{EqualFuture}
use Rattle.states.specs.States.{Met}
use Rattle.states.specs.Automata.{state_automaton}
use Rattle.chain.specs.ByState.{alike_states, over_states, state_signalled, state_units}
use Rattle.chain.specs.TableChainLaws.{chain_pmf, chain_survival}
use Rattle.chain.specs.FuturesLaws.{alike_exactly}
use Rattle.table.specs.declared.TableFigures.{TableFigures}
use Rattle.table.specs.Table.{TableCall, rules_of, table_of, mean_of}
use Rattle.table.specs.AcceptedTable.{AcceptedTable}
use Rattle.table.proofs.AcceptedTableLaws.{accepted_table}

module _ (t : TableCall) (f : TableFigures) (accepted : (table_of t).answer ≡ Ok f) where
  call : AcceptedTable t f
  call = accepted_table t f accepted

  -- Two states that zone sequences meet with no signal are alike, so taken as one, exactly where they have equal futures.
  pub alike_states_lem : {r s : ℕ} → Met (state_automaton (rules_of t)) r → Met (state_automaton (rules_of t)) s
      → (alike_states (rules_of t) r s ≡ true) ↔ EqualFuture (state_automaton (rules_of t)) (state_automaton (rules_of t)) r s
  alike_states_lem p q = alike_exactly (rules_of t) call.chain.few p q

  -- The chance at n + 1 is what the states signal then, divided once.
  pub chance_by_state : (n : ℕ) → n < t.horizon
      → at (table_of t).pmf_list n ≡ state_signalled (rules_of t) t.weights (state_units (rules_of t) t.weights n) / weight_total
  chance_by_state n i = call.pmf_at n i ∙ chain_pmf (rules_of t) call.chain.few t.weights n

  -- Left at n + 1 is the sum over the states of their units then.
  pub left_by_state : (n : ℕ) → n < t.horizon
      → at (table_of t).survival_list n ≡ over_states (rules_of t) (state_units (rules_of t) t.weights (suc n))
  left_by_state n i = call.survival_at n i ∙ chain_survival (rules_of t) call.chain.few t.weights (suc n)

  -- So is left at the horizon, and the cut mean is the sum of left from 0 to H - 1.
  pub survival_by_state : f.survival ≡ over_states (rules_of t) (state_units (rules_of t) t.weights t.horizon)
  survival_by_state = call.survival_is ∙ chain_survival (rules_of t) call.chain.few t.weights t.horizon

  pub mean_by_state : mean_of f ≡ sum t.horizon (λ n. over_states (rules_of t) (state_units (rules_of t) t.weights n))
  unfolding restricted_mean
  mean_by_state = call.mean_is ∙ sum_cong t.horizon _ _ (λ n i. chain_survival (rules_of t) call.chain.few t.weights n)
