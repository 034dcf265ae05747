-- The laws of the chain that the table runs on: it is proper; it has the plain chart's future; its size is N; its figures by state.
use Rattle.std.specs.Prelude.{◌≡◌, List, [], length}
use Rattle.std.proofs.Math.Path.{refl, sym, ap}
use Rattle.std.proofs.Common.{◌∙◌, arith, eq-eqb, eqb-true}
use Prim.Native.Nat.{ℕ, zero, suc, ◌*◌, ◌/◌, ◌≤◌, ◌<◌}
use Rattle.std.proofs.Math.Dec.{eqb}
use Rattle.rules.specs.declared.Rule.{Rule}
use Rattle.rules.specs.Bounds.{zone_count, max_states}
use Rattle.rules.specs.InBounds.{AllInBounds}
use Rattle.runlength.specs.Scale.{weight_total, units_per_one}
use Rattle.runlength.specs.Sum.{at, sum, only, tab}
use Rattle.runlength.specs.SumLaws.{sum_cong}
use Rattle.runlength.specs.Automaton.{Automaton, Move, quiet, signal, after}
use Rattle.runlength.specs.Chain.{Proper, inflow, signalled, units, pmf, survival}
use Rattle.runlength.specs.Future.{Alike, EqualFuture}
use Rattle.runlength.proofs.FutureLaws.{to_signal, future_trans}
use Rattle.runlength.proofs.LowestLaws.{lowest_cong}
use Rattle.runlength.proofs.ApartLaws.{same_test_by, simulation_alike}
use Rattle.runlength.specs.Apart.{alike_for}
use Rattle.runlength.specs.Merged.{leader_for, leads_for, class_count, class_of, first_of, merged_move}
use Rattle.runlength.proofs.ClassLaws.{leader_same, same_leader}
use Rattle.runlength.proofs.MergedLaws.{class_start, class_same, first_of_lem, sum_classes}
use Rattle.runlength.proofs.MergedLaws as merged
use Rattle.runlength.specs.Fewest.{HoldsStates}
use Rattle.runlength.proofs.ListedLaws.{listed_proper, listed_holds}
use Rattle.states.specs.States.{states, moves}
use Rattle.states.specs.Automata.{state_automaton, reference_automaton}
use Rattle.states.specs.AutomataLaws.{explored_reference}
use Rattle.runlength.specs.Index.{At}
use Rattle.states.specs.StatesLaws.{states_some, states_first, explored_simulation}
use Rattle.merge.specs.Merge.{given_automaton, merged_count}
use Rattle.merge.specs.MergeLaws.{merged_most, listed_merged, listed_future}
use Rattle.chain.specs.TableChain.{explored_count, state_count, chain_moves, table_automaton, table_chain}
use Rattle.chain.specs.ByState.{alike_states, first_of_its_kind, over_states, state_inflow, state_signalled, state_units}

module _ (rs : List Rule) where
  -- some state is explored, that of a chart just reset
  explored_some : 0 < explored_count rs
  unfolding explored_count
  explored_some = states_some (state_automaton rs)

  pub count_some : 1 ≤ state_count rs
  unfolding state_count merged_count
  count_some = merged.count_some (given_automaton (explored_count rs) (moves (state_automaton rs))) (explored_count rs) explored_some

  -- no more states than are explored
  pub count_explored : state_count rs ≤ explored_count rs
  unfolding state_count
  count_explored = merged_most (explored_count rs) (moves (state_automaton rs))

  -- its size is N
  pub chain_size : (w : List ℕ) → (table_chain rs w).size ≡ state_count rs
  chain_size w = refl

  -- it is proper
  pub chain_proper : (w : List ℕ) → sum zone_count (at w) ≡ weight_total → Proper (table_chain rs w)
  unfolding table_automaton
  chain_proper w weights = listed_proper zone_count (state_count rs) (chain_moves rs) (at w) count_some weights

  -- its states are the numbers below N
  pub chain_holds : HoldsStates (table_automaton rs) (tab (state_count rs) (λ i. i))
  unfolding table_automaton
  chain_holds = listed_holds zone_count (state_count rs) (chain_moves rs) count_some

  -- the indices of the explored states, and their moves
  abbrev pub met : List ℕ
  met = states (state_automaton rs)

  abbrev pub n : ℕ
  n = length met

  abbrev pub given : Automaton ℕ
  given = given_automaton n (moves (state_automaton rs))

  module _ (few : explored_count rs ≤ max_states) where
    pub few_met : n ≤ max_states
    unfolding explored_count
    few_met = few

    -- it has the future of the plain chart from an empty row
    pub chain_future : AllInBounds rs → EqualFuture (reference_automaton rs) (table_automaton rs) [] (table_automaton rs).start
    unfolding table_automaton state_count explored_count chain_moves
    chain_future bounds =
        future_trans (reference_automaton rs) given (table_automaton rs) (explored_reference rs bounds few_met)
        (rw (class_start given n) at (listed_future n (moves (state_automaton rs)) few_met 0 (states_some (state_automaton rs))))

    -- ---- its rounded units, by state

    -- the state of a class: that of its first index
    abbrev state_of : ℕ → ℕ
    state_of c = at met (first_of given n c)

    -- an index of the list, as the relation of indices and states
    standing : (i : ℕ) → i < n → At met i (at met i)
    standing i l = record { below = l; is = refl }

    -- states are alike exactly where their indices are
    pub alike_indices : (i j : ℕ) → i < n → j < n → alike_for given n i j ≡ alike_states rs (at met i) (at met j)
    unfolding alike_states
    alike_indices i j h l =
        simulation_alike given (state_automaton rs) (At met) (explored_simulation (state_automaton rs) few_met) n i j (at met i) (at met j)
        (standing i h) (standing j l)

    -- an index is of a class exactly where its state is alike to that of the class
    by_class : (i c : ℕ) → i < n → c < class_count given n → eqb (class_of given n i) c ≡ alike_states rs (at met i) (state_of c)
    by_class i c h l =
        let s = first_of given n c in
        let f = first_of_lem given n c l in
        same_test_by (eqb (class_of given n i) c) (alike_for given n i s)
        (λ e. leader_same given n i s (class_same given n i s (eqb-true (class_of given n i) c e ∙ sym f.class)))
        (λ e. eq-eqb (class_of given n i) c (merged.same_class given n i s (same_leader given n i s e) ∙ f.class))
        ∙ alike_indices i s h f.below

    -- the first index of a class holds the first state of its kind
    by_first : (i : ℕ) → i < n → leads_for given n i ≡ first_of_its_kind rs i
    unfolding leader_for first_of_its_kind
    by_first i h = ap (λ x. eqb x i) (lowest_cong _ _ i (λ j l. alike_indices j i (omega arith) h))

    -- a sum over the classes is one over the states that differ
    over_classes : (f : ℕ → ℕ) → sum (class_count given n) (λ c. f (state_of c)) ≡ over_states rs f
    unfolding over_states
    over_classes f =
        sym (sum_classes given n (λ i. f (at met i)))
        ∙ sum_cong n _ _ (λ i h. ap (λ b. only b (f (at met i))) (by_first i h))

    -- what the moves of a class bring, F saying what a move brings with what is brought to each index
    class_move : (c z : ℕ) → c < class_count given n → z < zone_count → {A : Type 0} (x : A) (f : ℕ → A)
        → after ((table_automaton rs).move c z) x f ≡ after (given.move (first_of given n c) z) x (λ i. f (class_of given n i))
    unfolding table_automaton state_count explored_count chain_moves merged_move merged_count
    class_move c z h l x f =
        ap (λ o. after o x f) (listed_merged n (moves (state_automaton rs)) few_met c z h l) ∙ go (given.move (first_of given n c) z)
      where
        go : (o : Move ℕ) → after (after o signal (λ t. quiet (class_of given n t))) x f ≡ after o x (λ i. f (class_of given n i))
        go (quiet t) = refl
        go signal = refl

    -- a move of an index is that of its state
    moved : (i z : ℕ) → i < n → z < zone_count → Alike (At met) (given.move i z) ((state_automaton rs).move (at met i) z)
    moved i z l h = (explored_simulation (state_automaton rs) few_met).kept i (at met i) (standing i l) z h

    -- what a move brings to a class it brings to the state of the class
    to_state : (d : ℕ) → d < class_count given n → (x : ℕ) (o k : Move ℕ) → Alike (At met) o k
        → after o 0 (λ i. only (eqb (class_of given n i) d) x) ≡ after k 0 (λ r. only (alike_states rs r (state_of d)) x)
    unfolding Alike
    to_state d l x (quiet i) (quiet s) p =
        ap (λ b. only b x) (by_class i d p.below l ∙ ap (λ y. alike_states rs y (state_of d)) p.is)
    to_state d l x (quiet i) signal p = absurd p
    to_state d l x signal (quiet s) p = absurd p
    to_state d l x signal signal p = refl

    module _ (w : List ℕ) where
      -- what the moves of a class and its state bring
      class_inflow : (u v : ℕ → ℕ) → ((c : ℕ) → c < class_count given n → u c ≡ v (state_of c)) → (d : ℕ) → d < class_count given n
          → (c z : ℕ) → c < class_count given n → z < zone_count
          → after ((table_automaton rs).move c z) 0 (λ r. only (eqb r d) (u c * at w z))
          ≡ after ((state_automaton rs).move (state_of c) z) 0 (λ r. only (alike_states rs r (state_of d)) (v (state_of c) * at w z))
      class_inflow u v e d l c z h g =
          class_move c z h g 0 (λ r. only (eqb r d) (u c * at w z))
          ∙ to_state d l (u c * at w z) _ _ (moved (first_of given n c) z (first_of_lem given n c h).below g)
          ∙ ap (λ y. after ((state_automaton rs).move (state_of c) z) 0 (λ r. only (alike_states rs r (state_of d)) (y * at w z))) (e c h)

      -- the units of a class are those of its state
      class_units : (k c : ℕ) → c < class_count given n → units (table_chain rs w) k c ≡ state_units rs w k (state_of c)
      unfolding units state_units state_inflow inflow state_count explored_count table_automaton merged_count
      class_units zero c l =
          ap (λ b. only b units_per_one)
          (ap (λ x. eqb x c) (sym (class_start given n)) ∙ by_class 0 c (states_some (state_automaton rs)) l
          ∙ ap (λ y. alike_states rs y (state_of c)) (states_first (state_automaton rs)))
      class_units (suc k) c l =
          ap (λ x. x / weight_total)
          (sum_cong (class_count given n) _ _ (λ s h. sum_cong zone_count _ _ (λ z g.
          class_inflow (units (table_chain rs w) k) (state_units rs w k) (class_units k) c l s z h g))
          ∙ over_classes (λ s. sum zone_count (λ z.
          after ((state_automaton rs).move s z) 0 (λ r. only (alike_states rs r (state_of c)) (state_units rs w k s * at w z)))))

      -- so are the figures
      pub chain_pmf : (k : ℕ) → pmf (table_chain rs w) (suc k) ≡ state_signalled rs w (state_units rs w k) / weight_total
      unfolding pmf signalled state_signalled state_count explored_count table_automaton merged_count
      chain_pmf k =
          ap (λ x. x / weight_total)
          (sum_cong (class_count given n) _ _ (λ s h. sum_cong zone_count _ _ (λ z g.
          class_move s z h g (units (table_chain rs w) k s * at w z) (λ r. 0)
          ∙ to_signal (At met) _ _ _ (moved (first_of given n s) z (first_of_lem given n s h).below g)
          ∙ ap (λ y. after ((state_automaton rs).move (state_of s) z) (y * at w z) (λ r. 0)) (class_units k s h)))
          ∙ over_classes (λ s. sum zone_count (λ z. after ((state_automaton rs).move s z) (state_units rs w k s * at w z) (λ r. 0))))

      pub chain_survival : (k : ℕ) → survival (table_chain rs w) k ≡ over_states rs (state_units rs w k)
      unfolding survival state_count explored_count merged_count
      chain_survival k = sum_cong (class_count given n) _ _ (λ s h. class_units k s h) ∙ over_classes (state_units rs w k)
