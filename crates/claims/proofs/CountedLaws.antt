-- The states met are exactly those of quiet rows, too many where there are too many of these; a quiet row has the future of its state. Laws.
use Rattle.std.specs.Prelude.{◌≡◌, refl, Bool, true, false, List, [], ◌∷◌, ◌↔◌, ℕ, ◌≤◌, ◌<◌, eqb, length}
use Rattle.std.proofs.Common.{sym, arith}
use borrow.Author.Tests.{eq-eqb, eqb-true}
use Rattle.rules.specs.declared.Rule.{Rule}
use Rattle.rules.specs.Bounds.{zone_count, max_states}
use Rattle.rules.specs.InBounds.{AllInBounds}
use Rattle.runlength.specs.Automaton.{quiet}
use Rattle.runlength.specs.Future.{Alike, EqualFuture}
use Rattle.runlength.proofs.FutureLaws.{future_sym, future_trans, future_step}
use Rattle.runlength.specs.Sum.{tab}
use Rattle.runlength.specs.TabLaws.{length_tab}
use Rattle.runlength.specs.PigeonholeLaws.{pigeonhole, in_numbers}
use Rattle.window.specs.State.{move_of}
use Rattle.window.specs.ReferenceChart.{row_mask}
use Rattle.window.specs.RowState.{state_of_row}
use Rattle.window.proofs.RowLaws.{move_of_row, empty_row_state}
use Rattle.states.specs.States.{Met, start, more, states}
use Rattle.states.specs.Automata.{automaton_move, state_automaton, reference_automaton}
use Rattle.states.specs.AutomataLaws.{reference_future}
use Rattle.states.specs.CountLaws.{states_too_many}
use Rattle.states.specs.StatesLaws.{states_distinct, states_met, states_all}
use Rattle.chain.specs.TableChain.{explored_count, state_count}
use Rattle.chain.specs.FuturesLaws.{state_of_class, class_met, classes_apart, classes_all}
use Rattle.claims.specs.Counted.{QuietRow, empty, point, OfQuietRow, CountsStates, ListsStates, TooManyStates, SameFuture, CountsFutures, OneOfEach}

-- ---- one row of each future: however they are taken, they are as many

module _ {rs : List Rule} {rows rows' : ℕ → List ℕ} {n m : ℕ} (a : OneOfEach rs rows n) (b : OneOfEach rs rows' m) where
  -- the row of b with the future of the row i of a
  other : (i : ℕ) → i < n → (k : ℕ) × (k < m) × SameFuture rs (rows i) (rows' k)
  other i h = b.all (rows i) (a.quiet_row i h)

  pub count_most : n ≤ m
  count_most =
      let plain = reference_automaton rs in
      let most = pigeonhole n (tab m (λ i. i)) (λ i h. (other i h).0) (λ i h. in_numbers m (other i h).0 (other i h).1)
      (λ i j h l k e. a.differ i j k l
      (future_trans plain plain plain (to_same e (other i h).2) (future_sym plain plain (other j l).2))) in
      omega (arith, length_tab m (λ i. i))
    where
      to_same : {r : List ℕ} {k l : ℕ} → k ≡ l → SameFuture rs r (rows' k) → SameFuture rs r (rows' l)
      to_same e f = rw (← e) f

pub count_once : {rs : List Rule} {rows rows' : ℕ → List ℕ} {n m : ℕ} → OneOfEach rs rows n → OneOfEach rs rows' m → n ≡ m
count_once a b = omega (arith, count_most a b, count_most b a)

-- ---- states

module _ (rs : List Rule) (bounds : AllInBounds rs) where
  -- the state of a quiet row is met
  pub quiet_met : {row : List ℕ} → QuietRow rs row → Met (state_automaton rs) (state_of_row rs row)
  quiet_met empty = rw (empty_row_state rs) start
  quiet_met (point {row} z q zone none) =
      more {t = state_of_row rs (z ∷ row)} z (quiet_met q) zone (rw (move_of_row rs bounds row z, eq-eqb (row_mask rs (z ∷ row)) 0 none))

  -- a quiet move from the state of a quiet row leads to the state of one
  on_quiet : {row : List ℕ} → QuietRow rs row → (z : ℕ) → z < zone_count → (t : ℕ)
      → automaton_move (move_of rs (state_of_row rs row) z) ≡ quiet t → OfQuietRow rs t
  on_quiet {row} q z zone t e = go (eqb (row_mask rs (z ∷ row)) 0) refl
    where
      go : (b : Bool) → eqb (row_mask rs (z ∷ row)) 0 ≡ b → OfQuietRow rs t
      go true p =
          let f = rw (move_of_row rs bounds row z, p) at e in
          record { row = z ∷ row; quiet_row = point z q zone (eqb-true (row_mask rs (z ∷ row)) 0 p); state = cc }
      go false p =
          let f = rw (move_of_row rs bounds row z, p) at e in
          absurd (let x : ◌≡◌ {A = ℕ} 0 1 = cc in omega arith)

  -- a state that is met is that of a quiet row
  pub met_quiet : {s : ℕ} → Met (state_automaton rs) s → OfQuietRow rs s
  met_quiet start = record { row = []; quiet_row = empty; state = sym (empty_row_state rs) }
  met_quiet (more {s = s} {t} z m zone e) =
      let o = met_quiet m in
      on_quiet o.quiet_row z zone t (rw o.state at e)

  -- and the other way round
  of_quiet : {s : ℕ} → OfQuietRow rs s → Met (state_automaton rs) s
  of_quiet o = rw o.state (quiet_met o.quiet_row)

  -- more than are taken are explored exactly where there are more states of quiet rows
  pub too_many : (max_states < explored_count rs) ↔ TooManyStates rs
  unfolding explored_count
  too_many = (
    λ h. let o = (states_too_many (state_automaton rs)).0 h in
        record { list = o.0; count = o.1; distinct = o.2.distinct; each = λ i l. met_quiet (o.2.all_met.met i l) },
    λ c. (states_too_many (state_automaton rs)).1
        (c.list, c.count, record { distinct = c.distinct; all_met = record { met = λ i l. of_quiet (c.each i l) } }),
  )

  module _ (few : explored_count rs ≤ max_states) where
    abbrev met : List ℕ
    met = states (state_automaton rs)

    few_met : length met ≤ max_states
    unfolding explored_count
    few_met = few

    -- the states explored of a list that is not refused by 10 are exactly these
    pub counts_states : CountsStates rs (explored_count rs)
    unfolding explored_count
    counts_states = record {
      list = met;
      count = refl;
      distinct = states_distinct (state_automaton rs);
      each = λ i h. met_quiet ((states_met (state_automaton rs)).met i h);
      all = λ row q. let p = (states_all (state_automaton rs) few_met).index (state_of_row rs row) (quiet_met q) in (p.0, p.1.below, p.1.is);
    }

    -- and the list of them has each once
    pub lists_states : ListsStates rs (states (state_automaton rs)) (explored_count rs)
    unfolding explored_count
    lists_states = record {
      count = refl;
      distinct = states_distinct (state_automaton rs);
      each = λ i h. met_quiet ((states_met (state_automaton rs)).met i h);
      all = λ row q. let p = (states_all (state_automaton rs) few_met).index (state_of_row rs row) (quiet_met q) in (p.0, p.1.below, p.1.is);
    }

  -- ---- futures

  -- a quiet row has the future of its state
  pub row_future : {row : List ℕ} → QuietRow rs row → EqualFuture (reference_automaton rs) (state_automaton rs) row (state_of_row rs row)
  unfolding Alike
  row_future empty = rw (empty_row_state rs) (reference_future rs bounds)
  row_future (point {row} z q zone none) =
      rw (move_of_row rs bounds row z, eq-eqb (row_mask rs (z ∷ row)) 0 none) at
      (future_step (reference_automaton rs) (state_automaton rs) (row_future q) z zone)

  module _ (few : explored_count rs ≤ max_states) where
    -- the quiet row of a state that is met, with the state's future
    quiet_row : (c : ℕ) → c < state_count rs → OfQuietRow rs (state_of_class rs few c)
    quiet_row c h = met_quiet (class_met rs few c h)

    class_row : (c : ℕ) (h : c < state_count rs)
        → EqualFuture (reference_automaton rs) (state_automaton rs) (quiet_row c h).row (state_of_class rs few c)
    class_row c h = rw (quiet_row c h).state (row_future (quiet_row c h).quiet_row)

    -- N counts exactly the futures of quiet rows
    pub counts_futures : CountsFutures rs (state_count rs)
    counts_futures =
        let plain = reference_automaton rs in
        let chart = state_automaton rs in
        record {
          row = λ c h. (quiet_row c h).row;
          quiet_row = λ c h. (quiet_row c h).quiet_row;
          differ = λ c d h l k e.
              classes_apart rs few c d k l
              (future_trans chart plain chart (future_sym plain chart (class_row c h)) (future_trans plain plain chart e (class_row d l)));
          all = λ r q.
              let o = classes_all rs few (quiet_met q) in
              let back = future_sym plain chart (class_row o.0 o.1) in
              (o.0, o.1, future_trans plain chart plain (row_future q) (future_trans chart chart plain o.2 back));
        }
