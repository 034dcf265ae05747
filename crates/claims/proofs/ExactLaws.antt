-- The exact sum and the exact mean are those of the plain chart as an automaton, and of the chain that the table runs on. Laws.
use Rattle.std.specs.Prelude.{◌≡◌, Bool}
use Rattle.std.proofs.Math.Path.{refl, ap}
use Rattle.std.proofs.Common.{◌∙◌}
use Rattle.std.proofs.Math.Bool.{true, false}
use mathlib.Core.List.{List, [], ◌∷◌}
use Prim.Native.Nat.{ℕ, suc, ◌*◌, ◌≤◌}
use Rattle.std.proofs.Math.Dec.{eqb}
use Rattle.rules.specs.declared.Rule.{Rule}
use Rattle.rules.specs.Bounds.{zone_count, max_states}
use Rattle.rules.specs.InBounds.{AllInBounds}
use Rattle.runlength.specs.Sum.{only, at}
use Rattle.runlength.specs.SequenceLaws.{sequences_cong_all}
use Rattle.runlength.specs.Automaton.{product, signals, run_length, exact_cdf, exact_restricted_mean}
use Rattle.runlength.proofs.FutureLaws.{future_cdf, future_mean}
use Rattle.window.specs.ReferenceChart.{row_mask}
use Rattle.states.specs.Automata.{reference_automaton}
use Rattle.chain.specs.TableChain.{explored_count, table_automaton}
use Rattle.chain.specs.TableChainLaws.{chain_future}
use Rattle.claims.specs.Exact.{free_answers, says_signal, first_signal, exact_sum, exact_mean}

module _ (rs : List Rule) where
  -- the chart says signal at least once just where its automaton signals
  free_signals : (q row : List ℕ) → says_signal (free_answers rs row q) ≡ signals (reference_automaton rs) row q
  unfolding free_answers says_signal signals
  free_signals [] row = refl
  free_signals (z ∷ q) row = each (eqb (row_mask rs (z ∷ row)) 0) refl (free_signals q (z ∷ row))
    where
      each : (b : Bool) → eqb (row_mask rs (z ∷ row)) 0 ≡ b → says_signal (free_answers rs (z ∷ row) q) ≡ signals (reference_automaton rs) (z ∷ row) q
          → says_signal (free_answers rs row (z ∷ q)) ≡ signals (reference_automaton rs) row (z ∷ q)
      each true e f = rw e f
      each false e f = rw e

  -- and the number of its first signalling point is the run length
  free_run_length : (q row : List ℕ) → first_signal (free_answers rs row q) ≡ run_length (reference_automaton rs) row q
  unfolding free_answers first_signal run_length
  free_run_length [] row = refl
  free_run_length (z ∷ q) row = each (eqb (row_mask rs (z ∷ row)) 0) refl (free_run_length q (z ∷ row))
    where
      each : (b : Bool) → eqb (row_mask rs (z ∷ row)) 0 ≡ b → first_signal (free_answers rs (z ∷ row) q) ≡ run_length (reference_automaton rs) (z ∷ row) q
          → first_signal (free_answers rs row (z ∷ q)) ≡ run_length (reference_automaton rs) row (z ∷ q)
      each true e f = rw e (ap suc f)
      each false e f = rw e

  module _ (w : List ℕ) where
    pub sum_of_chart : (n : ℕ) → exact_sum rs w n ≡ exact_cdf (reference_automaton rs) (at w) n
    unfolding exact_sum exact_cdf
    sum_of_chart n = sequences_cong_all zone_count n (λ q. ap (λ b. only b (product (at w) q)) (free_signals q []))

    mean_of_chart : (h : ℕ) → exact_mean rs w h ≡ exact_restricted_mean (reference_automaton rs) (at w) h
    unfolding exact_mean exact_restricted_mean
    mean_of_chart h = sequences_cong_all zone_count h (λ q. ap (λ k. product (at w) q * k) (free_run_length q []))

    -- and of the chain that the table runs on
    module _ (bounds : AllInBounds rs) (few : explored_count rs ≤ max_states) where
      pub sum_of_chain : (n : ℕ) → exact_sum rs w n ≡ exact_cdf (table_automaton rs) (at w) n
      sum_of_chain n = sum_of_chart n ∙ future_cdf (reference_automaton rs) (table_automaton rs) (chain_future rs few bounds) (at w) n

      pub mean_of_chain : (h : ℕ) → exact_mean rs w h ≡ exact_restricted_mean (table_automaton rs) (at w) h
      mean_of_chain h = mean_of_chart h ∙ future_mean (reference_automaton rs) (table_automaton rs) (chain_future rs few bounds) (at w) h
