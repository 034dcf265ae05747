-- The plain chart, the chart by its state and the chain of the explored states first signal on the same sequences.
use Rattle.std.specs.Prelude.{ℕ, ◌≤◌, ◌<◌, ◌≡◌, Bool, cond, List, [], ◌∷◌, eqb, length}
use Rattle.std.proofs.Math.Path.{refl}
use Rattle.std.proofs.Common.{sym, ap, ◌∙◌, ⊎_elim, eq-zero-or-pos, arith}
use Rattle.std.proofs.Math.Bool.{true, false}
use Rattle.rules.specs.declared.Rule.{Rule}
use Rattle.rules.specs.Bounds.{zone_count, max_states}
use Rattle.rules.specs.InBounds.{AllInBounds}
use Rattle.window.specs.declared.Move.TheVariants.{Quiet, Signal}
use Rattle.window.specs.State.{empty_state, state_mask, next_state}
use Rattle.window.specs.Settled.{CanBeGiven}
use Rattle.window.specs.MoveLaws.{move_quiet, move_signal}
use Rattle.window.proofs.GivenLaws.{empty_given, quiet_given}
use Rattle.window.specs.ReferenceChart.{row_mask}
use Rattle.window.specs.RowState.{state_of_row}
use Rattle.window.proofs.RowLaws.{move_of_row, empty_row_state}
use Rattle.runlength.specs.Automaton.{quiet, signal}
use Rattle.runlength.specs.Listed.{listed_automaton}
use Rattle.runlength.specs.Future.{Alike, EqualFuture, Simulation}
use Rattle.runlength.proofs.FutureLaws.{simulation_future, future_sym, future_trans}
use Rattle.states.specs.States.{Met, start, more, states, moves}
use Rattle.states.specs.StatesLaws.{explored_future}
use Rattle.states.specs.Automata.{automaton_move, state_automaton, reference_automaton}

-- the state of a row
pub record OfRow (rs : List Rule) (row : List ℕ) (s : ℕ) : Type 0 where
  pub is : s ≡ state_of_row rs row

module _ (rs : List Rule) (bounds : AllInBounds rs) where
  -- each state that is met can be given
  pub met_given : {s : ℕ} → Met (state_automaton rs) s → CanBeGiven rs s
  met_given start = empty_given rs bounds
  met_given {s = t} (more {s = r} z p h e) =
      ⊎_elim
      (λ (q : state_mask rs r z ≡ 0).
      let same : quiet (next_state rs r z) ≡ quiet t = sym (ap automaton_move (move_quiet rs r z q)) ∙ e in
      let next : next_state rs r z ≡ t = cc in
      rw next at (quiet_given rs bounds r z h (met_given p) q))
      (λ (q : 0 < state_mask rs r z).
      let same : signal ≡ quiet t = sym (ap automaton_move (move_signal rs r z (λ y. omega arith))) ∙ e in
      let never : ◌≡◌ {A = ℕ} 0 1 = cc in
      absurd (omega arith))
      (eq-zero-or-pos (state_mask rs r z))

  -- by one rule for both: a signal where the mask is not 0
  same_mask : (row : List ℕ) (mask : ℕ) (b : Bool) → Alike (OfRow rs) (cond b (quiet row) signal) (automaton_move (cond b (Quiet (state_of_row rs row)) (Signal mask)))
  unfolding Alike
  same_mask row mask true = record { is = refl }
  same_mask row mask false = tt

  row_kept : (row : List ℕ) (s : ℕ) → OfRow rs row s → (z : ℕ) → Alike (OfRow rs) ((reference_automaton rs).move row z) ((state_automaton rs).move s z)
  row_kept row s p z = rw (p.is, move_of_row rs bounds row z) (same_mask (z ∷ row) (row_mask rs (z ∷ row)) (eqb (row_mask rs (z ∷ row)) 0))

  -- the state moves as the row that it is the state of
  row_simulation : Simulation (reference_automaton rs) (state_automaton rs) (OfRow rs)
  row_simulation = record { same_zones = refl; kept = λ row s p z h. row_kept row s p z }

  -- the plain chart and the chart by its state first signal on the same sequences
  pub reference_future : EqualFuture (reference_automaton rs) (state_automaton rs) [] empty_state
  reference_future =
      simulation_future (reference_automaton rs) (state_automaton rs) (OfRow rs) row_simulation (record { is = sym (empty_row_state rs) })

  -- so do the plain chart and the chain of the explored states
  pub explored_reference : length (states (state_automaton rs)) ≤ max_states
      → EqualFuture (reference_automaton rs) (listed_automaton zone_count (length (states (state_automaton rs))) (moves (state_automaton rs))) [] 0
  explored_reference few =
      let chain = listed_automaton zone_count (length (states (state_automaton rs))) (moves (state_automaton rs)) in
      future_trans (reference_automaton rs) (state_automaton rs) chain reference_future
      (future_sym chain (state_automaton rs) (explored_future (state_automaton rs) few))
