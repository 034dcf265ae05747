-- The states that differ are the futures of the states met: alike exactly where the futures are equal, one of each, none left out; and no chart
-- that first signals on the same sequences has fewer states. Laws.
use Rattle.std.specs.Prelude.{ℕ, ◌+◌, ◌-◌, ◌≤◌, ◌<◌, ◌≡◌, ◌↔◌, List, [], eqb, length}
use Rattle.std.proofs.Math.Path.{refl, ap}
use Rattle.std.proofs.Common.{sym, ◌∙◌}
use Rattle.std.proofs.Math.Bool.{true}
use native.Mathlib.Omega.{arith}
use borrow.Author.Tests.{eq-eqb, eqb-true}
use Rattle.rules.specs.declared.Rule.{Rule}
use Rattle.rules.specs.Bounds.{zone_count, max_states}
use Rattle.rules.specs.InBounds.{AllInBounds}
use Rattle.runlength.specs.Sum.{at}
use Rattle.runlength.specs.Automaton.{Automaton, Move, quiet, signal}
use Rattle.runlength.specs.Future.{Alike, EqualFuture}
use Rattle.runlength.proofs.FutureLaws.{simulation_future, future_sym, future_trans}
use Rattle.runlength.specs.Merged.{class_of, first_of}
use Rattle.runlength.specs.Apart.{alike_for}
use Rattle.runlength.proofs.ApartLaws.{same_test_by, alike_refl, alike_fewer, future_alike}
use Rattle.runlength.proofs.ClassLaws.{same_leader, leader_future}
use Rattle.runlength.proofs.MergedLaws.{class_below, class_future, first_of_lem, merged_fewest}
use Rattle.runlength.specs.Fewest.{HoldsStates, CanBeReached}
use Rattle.states.specs.States.{Met, start, more, moves}
use Rattle.states.specs.Automata.{state_automaton, reference_automaton}
use Rattle.states.specs.AutomataLaws.{explored_reference}
use Rattle.runlength.specs.Index.{At}
use Rattle.runlength.specs.IndexLaws.{same_index}
use Rattle.states.specs.StatesLaws.{states_some, states_first, states_distinct, states_met, states_all, explored_simulation}
use Rattle.merge.specs.Merge.{merged_count}
use Rattle.merge.specs.MergeLaws.{given_closed, listed_future}
use Rattle.chain.specs.TableChain.{explored_count, state_count, chain_moves, table_automaton}
use Rattle.chain.specs.ByState.{alike_states}
use Rattle.chain.specs.TableChainLaws.{met, n, given, few_met, alike_indices}

module _ (rs : List Rule) (few : explored_count rs ≤ max_states) where
  abbrev by_state : Automaton ℕ
  by_state = state_automaton rs

  closed : (s z t : ℕ) → s < n rs → z < zone_count → (given rs).move s z ≡ quiet t → t < n rs
  closed = given_closed (n rs) (moves by_state)

  -- the index of a state that is met
  index : {s : ℕ} → Met by_state s → (i : ℕ) × At (met rs) i s
  index {s} m = (states_all by_state (few_met rs few)).index s m

  -- an index has the future of its state
  index_future : {i s : ℕ} → At (met rs) i s → EqualFuture (given rs) by_state i s
  index_future p = simulation_future (given rs) by_state (At (met rs)) (explored_simulation by_state (few_met rs few)) p

  -- so equal futures of states are equal futures of their indices
  to_indices : {i j s t : ℕ} → At (met rs) i s → At (met rs) j t → EqualFuture by_state by_state s t → EqualFuture (given rs) (given rs) i j
  to_indices p q e =
      future_trans (given rs) by_state (given rs) (index_future p)
      (future_trans by_state by_state (given rs) e (future_sym (given rs) by_state (index_future q)))

  from_indices : {i j s t : ℕ} → At (met rs) i s → At (met rs) j t → EqualFuture (given rs) (given rs) i j → EqualFuture by_state by_state s t
  from_indices p q e =
      future_trans by_state (given rs) by_state (future_sym (given rs) by_state (index_future p))
      (future_trans (given rs) (given rs) by_state e (index_future q))

  -- two states that are met are alike exactly where they have equal futures
  pub alike_exactly : {s t : ℕ} → Met by_state s → Met by_state t → (alike_states rs s t ≡ true) ↔ EqualFuture by_state by_state s t
  alike_exactly {s} {t} a b =
      let p = index a in
      let q = index b in
      let same = rw (p.1.is, q.1.is) at (alike_indices rs few p.0 q.0 p.1.below q.1.below) in (
        λ e. from_indices p.1 q.1
            (leader_future (given rs) (n rs) closed p.0 q.0 p.1.below q.1.below (same_leader (given rs) (n rs) p.0 q.0 (same ∙ e))),
        λ e. sym same ∙ future_alike (given rs) (n rs) p.0 q.0 (to_indices p.1 q.1 e),
      )

  -- ---- one state of each future

  -- the state of a class
  abbrev pub state_of_class : ℕ → ℕ
  state_of_class c = at (met rs) (first_of (given rs) (n rs) c)

  standing : (c : ℕ) → c < state_count rs → At (met rs) (first_of (given rs) (n rs) c) (state_of_class c)
  unfolding state_count explored_count merged_count
  standing c h = record { below = (first_of_lem (given rs) (n rs) c h).below; is = refl }

  pub class_met : (c : ℕ) → c < state_count rs → Met by_state (state_of_class c)
  class_met c h = (states_met by_state).met (first_of (given rs) (n rs) c) (standing c h).below

  -- no two have equal futures
  pub classes_apart : (c d : ℕ) → c < d → d < state_count rs → EqualFuture by_state by_state (state_of_class c) (state_of_class d) → ⊥
  unfolding state_count explored_count merged_count
  classes_apart c d l h e =
      let p = first_of_lem (given rs) (n rs) c (omega arith) in
      let q = first_of_lem (given rs) (n rs) d h in
      let f = to_indices (standing c (omega arith)) (standing d h) e in
      let same = (class_future (given rs) (n rs) closed (first_of (given rs) (n rs) c) (first_of (given rs) (n rs) d) p.below q.below).1 f in
      omega (arith, p.class, q.class)

  -- each state that is met has the future of one
  pub classes_all : {s : ℕ} → Met by_state s → (c : ℕ) × (c < state_count rs) × EqualFuture by_state by_state s (state_of_class c)
  unfolding state_count explored_count merged_count
  classes_all {s} m =
      let p = index m in
      let c = class_of (given rs) (n rs) p.0 in
      let h = class_below (given rs) (n rs) p.0 p.1.below in
      let f = first_of_lem (given rs) (n rs) c h in (
        c,
        h,
        from_indices p.1 (standing c h)
            ((class_future (given rs) (n rs) closed p.0 (first_of (given rs) (n rs) c) p.1.below f.below).0 (sym f.class)),
      )

  -- ---- the chain has one state of each future

  abbrev chain : Automaton ℕ
  chain = table_automaton rs

  abbrev size : ℕ
  size = state_count rs

  -- no quiet move leaves the chain's states
  pub chain_closed : (s z t : ℕ) → s < size → z < zone_count → chain.move s z ≡ quiet t → t < size
  unfolding table_automaton
  chain_closed = given_closed size (chain_moves rs)

  -- an index has, in the chain, the future of its class
  index_class : (i : ℕ) → i < n rs → (class_of (given rs) (n rs) i < size) × EqualFuture (given rs) chain i (class_of (given rs) (n rs) i)
  unfolding table_automaton state_count explored_count chain_moves merged_count
  index_class i h = (class_below (given rs) (n rs) i h, listed_future (n rs) (moves by_state) (few_met rs few) i h)

  -- a state that is met has the future of one of the chain's states
  pub state_class : {s : ℕ} → Met by_state s → (c : ℕ) × (c < size) × EqualFuture by_state chain s c
  state_class m =
      let p = index m in
      let k = index_class p.0 p.1.below in
      (class_of (given rs) (n rs) p.0, k.0, future_trans by_state (given rs) chain (future_sym (given rs) by_state (index_future p.1)) k.1)

  -- the first index of a class has its future
  first_class : (c : ℕ) → c < size
      → (first_of (given rs) (n rs) c < n rs) × (class_of (given rs) (n rs) (first_of (given rs) (n rs) c) ≡ c)
      × EqualFuture (given rs) chain (first_of (given rs) (n rs) c) c
  unfolding state_count explored_count merged_count
  first_class c h =
      let f = first_of_lem (given rs) (n rs) c h in
      (f.below, f.class, same_class f.class (index_class (first_of (given rs) (n rs) c) f.below).1)
    where
      same_class : {i c d : ℕ} → c ≡ d → EqualFuture (given rs) chain i c → EqualFuture (given rs) chain i d
      same_class e f = rw (← e) f

  -- and each of the chain's states has that of a state that is met
  pub class_state : (c : ℕ) → c < size → (s : ℕ) × Met by_state s × EqualFuture by_state chain s c
  class_state c h =
      let f = first_class c h in
      let i = first_of (given rs) (n rs) c in
      let p : At (met rs) i (at (met rs) i) = record { below = f.0; is = refl } in
      (at (met rs) i, (states_met by_state).met i f.0, future_trans by_state (given rs) chain (future_sym (given rs) by_state (index_future p)) f.2)

  -- no two of the chain's states have equal futures
  pub one_class : (c d : ℕ) → c < size → d < size → EqualFuture chain chain c d → c ≡ d
  one_class c d h l e =
      let p = first_class c h in
      let q = first_class d l in
      let k = future_trans (given rs) chain (given rs) p.2 (future_trans chain chain (given rs) e (future_sym (given rs) chain q.2)) in
      sym p.1 ∙ (class_future (given rs) (n rs) closed (first_of (given rs) (n rs) c) (first_of (given rs) (n rs) d) p.0 q.0).1 k ∙ q.1

  -- as many points as it has states tell any two apart
  pub chain_apart : (c d k : ℕ) → c < size → d < size → size ≤ k → alike_for chain k c d ≡ eqb c d
  unfolding table_automaton
  chain_apart c d k h l m =
      same_test_by (alike_for chain k c d) (eqb c d)
      (λ e. eq-eqb c d (one_class c d h l (leader_future chain size chain_closed c d h l (same_leader chain size c d (fewer k m e)))))
      (λ e. ap (λ x. alike_for chain k c x) (sym (eqb-true c d e)) ∙ alike_refl chain k c)
    where
      fewer : (k : ℕ) → size ≤ k → alike_for chain k c d ≡ true → alike_for chain size c d ≡ true
      fewer k m e =
          let q : size + (k - size) ≡ k = omega arith in
          alike_fewer chain size (k - size) c d (ap (λ x. alike_for chain x c d) q ∙ e)

  -- ---- fewest

  -- an index whose state is met has every property that the first index has and quiet moves keep
  module _ (P : ℕ → Type 0) (first : P 0)
      (on : (r t z : ℕ) → P r → z < zone_count → (given rs).move r z ≡ quiet t → P t) where
    one_index : (i j s : ℕ) → At (met rs) i s → At (met rs) j s → i ≡ j
    one_index i j s p q =
        same_index (at (met rs)) (n rs) (states_distinct by_state).apart i j p.below q.below (p.is ∙ sym q.is)

    reach : {s : ℕ} → Met by_state s → (i : ℕ) → At (met rs) i s → P i
    unfolding Alike
    reach start i p =
        let e = one_index 0 i by_state.start (record { below = states_some by_state; is = states_first by_state }) p in
        rw e at first
    reach (more {s = r} {t} z m h e) i p =
        let o = index m in
        go ((given rs).move o.0 z) refl (rw e at ((explored_simulation by_state (few_met rs few)).kept o.0 r o.1 z h)) (reach m o.0 o.1)
      where
        go : (k : Move ℕ) → (given rs).move (index m).0 z ≡ k → Alike (At (met rs)) k (quiet t) → P (index m).0 → P i
        go (quiet x) d q b = let y = one_index x i t q p in rw y at (on (index m).0 x z b h d)
        go signal d q b = absurd q

  all_reached : (i : ℕ) → i < n rs → CanBeReached (given rs) i
  all_reached i h =
      record { by = λ P first on. reach P first on ((states_met by_state).met i h) i (record { below = h; is = refl }) }

  -- every chart that first signals on the same sequences as the plain chart has at least N states
  pub chain_fewest : AllInBounds rs → {B : Type 0} (b : Automaton B) (xs : List B) → HoldsStates b xs
      → EqualFuture (reference_automaton rs) b [] b.start → state_count rs ≤ length xs
  unfolding state_count explored_count merged_count
  chain_fewest bounds b xs holds same =
      merged_fewest (given rs) (n rs) closed all_reached b xs holds
      (future_trans (given rs) (reference_automaton rs) b
      (future_sym (reference_automaton rs) (given rs) (explored_reference rs bounds (few_met rs few))) same)
