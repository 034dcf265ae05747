-- One state more is numbered; and numbered by their leaders, the classes are those of the merged chart. Laws.
use Rattle.std.specs.Prelude.{ℕ, zero, suc, ◌+◌, ◌*◌, ◌/◌, ◌%◌, ◌≤◌, ◌<◌, ◌≡◌, refl, Bool, true, false, cond, List, ◌++◌, length, take, set, ltb}
use Rattle.std.proofs.Math.Path.{sym, ap}
use Rattle.std.proofs.Common.{◌∙◌, arith, le_refl, lt-ltb, le-ltb, ltb-true, get_or-take, get_or-set_same, get_or-set_other}
use Rattle.std.proofs.Math.Decide.{dec_lt}
use Rattle.std.proofs.Math.Seq.{length-take-le}
use Rattle.std.proofs.Math.ListN.{drop}
use Rattle.rules.specs.Bounds.{zone_count, max_states}
use Rattle.runlength.specs.Sum.{at, sum, tab, front}
use Rattle.runlength.specs.TabLaws.{get_d_tab, tab_cong}
use Rattle.runlength.specs.Automaton.{quiet, signal, after}
use Rattle.runlength.specs.Listed.{entry_move}
use Rattle.runlength.specs.Merged.{lead_before, leader_for, leaders_for, class_count, class_of, first_of, merged_move}
use Rattle.runlength.proofs.LeadLaws.{lead_one, lead_none, lead_less, lead_cong}
use Rattle.runlength.proofs.ClassLaws.{leader_most, leader_leads}
use Rattle.runlength.proofs.MergedLaws.{class_leads, count_most, first_of_lem}
use Rattle.merge.specs.Merge.{entry_of, given_automaton, merged_count, merged_moves, Mergeable}
use Rattle.merge.specs.declared.classes.Classes.{Classes}
use Rattle.merge.specs.Rounds.{label_of, next_leader, HoldsLeaders}
use Rattle.merge.specs.RoundsLaws.{none_held, next_leader_lem}
use Rattle.merge.specs.Numbering.{Led, Numbered, Numberable, CanNumber, carried, CanCarry}

-- ---- one state more

module _ {l : List ℕ} {c : Classes} {i : ℕ} (p : CanNumber l c i) (classes_room : length c.of_states ≡ max_states)
    (firsts_room : length c.firsts ≡ max_states) where
  -- the first of a class
  pub number_first : at l i ≡ i
      → Numbered l (record { of_states = set c.of_states i c.count; firsts = set c.firsts c.count i; count = c.count + 1 }) (i + 1)
  number_first e = record {
    fewer = omega (arith, p.so_far.fewer);
    counted = omega (arith, p.so_far.counted, lead_one (at l) i e);
    class_is = λ s h. class s h (dec_lt s i);
    first_is = λ s h f. first s h f (dec_lt s i);
  }
    where
      class : (s : ℕ) → s < i + 1 → Dec (s < i) → at (set c.of_states i c.count) s ≡ lead_before (at l) (at l s)
      class s h (yes k) = get_or-set_other c.of_states i s c.count 0 (omega arith) ∙ p.so_far.class_is s k
      class s h (no k) =
          let d : s ≡ i = omega arith in
          rw d (get_or-set_same c.of_states i c.count 0 (omega (arith, p.few)) ∙ p.so_far.counted ∙ ap (lead_before (at l)) (sym e))

      first : (s : ℕ) → s < i + 1 → at l s ≡ s → Dec (s < i) → at (set c.firsts c.count i) (lead_before (at l) s) ≡ s
      first s h f (yes k) =
          get_or-set_other c.firsts c.count (lead_before (at l) s) i 0 (omega (arith, lead_less (at l) s i f k, p.so_far.counted))
          ∙ p.so_far.first_is s k f
      first s h f (no k) =
          let d : s ≡ i = omega arith in
          rw (d, sym p.so_far.counted) (get_or-set_same c.firsts c.count i 0 (omega (arith, p.few, p.so_far.fewer)))

  -- another one
  pub number_other : (leader : ℕ) → leader ≡ at l i → (leader ≡ i → ⊥)
      → Numbered l (record { of_states = set c.of_states i (at c.of_states leader); firsts = c.firsts; count = c.count }) (i + 1)
  number_other leader q other = record {
    fewer = omega (arith, p.so_far.fewer);
    counted = omega (arith, p.so_far.counted, lead_none (at l) i e);
    class_is = λ s h. class s h (dec_lt s i);
    first_is = λ s h f. first s h f (dec_lt s i);
  }
    where
      e : at l i ≡ i → ⊥
      e d = other (q ∙ d)

      before : leader < i
      before = omega (arith, p.led.most)

      class : (s : ℕ) → s < i + 1 → Dec (s < i) → at (set c.of_states i (at c.of_states leader)) s ≡ lead_before (at l) (at l s)
      class s h (yes k) = get_or-set_other c.of_states i s (at c.of_states leader) 0 (omega arith) ∙ p.so_far.class_is s k
      class s h (no k) =
          let d : s ≡ i = omega arith in
          rw d
          (get_or-set_same c.of_states i (at c.of_states leader) 0 (omega (arith, p.few)) ∙ p.so_far.class_is leader before
          ∙ ap (λ x. lead_before (at l) (at l x)) q ∙ ap (lead_before (at l)) p.led.leads)

      first : (s : ℕ) → s < i + 1 → at l s ≡ s → Dec (s < i) → at c.firsts (lead_before (at l) s) ≡ s
      first s h f (yes k) = p.so_far.first_is s k f
      first s h f (no k) = let d : s ≡ i = omega arith in absurd (e (rw d at f))

-- ---- all states

pub numbered_none : (l : List ℕ) (c : Classes) → c.count ≡ 0 → Numbered l c 0
unfolding lead_before sum
numbered_none l c e = record {
  fewer = omega arith;
  counted = e;
  class_is = λ s h. absurd (omega arith);
  first_is = λ s h e. absurd (omega arith);
}

pub number_can : {l : List ℕ} {c : Classes} {i : ℕ} → Numberable l → i < length l → Numbered l c i → CanNumber l c i
number_can p h q = record { few = omega (arith, p.few); led = p.led _ h; leaders_room = h; so_far = q }

-- ---- the first n places of a longer list, as a slice

module _ (n : ℕ) (l : List ℕ) (fits : n ≤ length l) where
  pub label_taken : (x : ℕ) → label_of (length (take n l)) (take n l) x ≡ label_of n l x
  label_taken x = rw (length-take-le n l fits) (go (ltb x n) refl)
    where
      go : (b : Bool) → ltb x n ≡ b → cond b (at (take n l) x) max_states ≡ cond b (at l x) max_states
      go true e = get_or-take n l x 0 (ltb-true x n e)
      go false e = refl

-- ---- by the leaders of all continuations

module _ {n : ℕ} {m l : List ℕ} (p : HoldsLeaders n m l n) where
  pub leaders_led : (i : ℕ) → i < n → Led l i
  leaders_led i h =
      let most = leader_most (given_automaton n m) n i in
      record {
        most = omega (arith, p.is i h);
        leads = rw (p.is i h) (p.is (leader_for (given_automaton n m) n i) (omega arith) ∙ leader_leads (given_automaton n m) n i);
      }

  pub number_of : n ≤ max_states → length l ≡ n → Numberable l
  number_of few e = record { few = rw e few; led = rw e leaders_led }

  pub led_leaders : (i : ℕ) → i ≤ n → lead_before (at l) i ≡ leaders_for (given_automaton n m) n i
  led_leaders i h = lead_cong (at l) (leader_for (given_automaton n m) n) i (λ j k. p.is j (omega arith))

  module _ {c : Classes} (long : length l ≡ n) (numbered : Numbered l c (length l)) where
    q : Numbered l c n
    q = rw long at numbered

    -- so many classes
    pub numbered_count : c.count ≡ merged_count n m
    unfolding merged_count class_count
    numbered_count = q.counted ∙ led_leaders n (le_refl n)

    numbered_class : (i : ℕ) → i < n → at c.of_states i ≡ class_of (given_automaton n m) n i
    unfolding class_of
    numbered_class i h =
        let most = leader_most (given_automaton n m) n i in
        q.class_is i h ∙ ap (lead_before (at l)) (p.is i h) ∙ led_leaders (leader_for (given_automaton n m) n i) (omega arith)

    -- the first state of a class
    numbered_first : (i : ℕ) → i < merged_count n m → at c.firsts i ≡ first_of (given_automaton n m) n i
    unfolding merged_count
    numbered_first i h =
        let f = first_of_lem (given_automaton n m) n i h in
        let s = first_of (given_automaton n m) n i in
        let number : lead_before (at l) s ≡ i =
        led_leaders s (omega (arith, f.below)) ∙ sym (class_leads (given_automaton n m) n s f.leads) ∙ f.class in
        ap (at c.firsts) (sym number) ∙ q.first_is s f.below (p.is s f.below ∙ f.leads)

    pub first_below : (i : ℕ) → i < c.count → at c.firsts i < n
    unfolding merged_count
    first_below i h =
        let g : i < merged_count n m = omega (arith, numbered_count) in
        omega (arith, numbered_first i g, (first_of_lem (given_automaton n m) n i g).below)

    label_entry : (x : ℕ) → label_of n c.of_states x ≡ entry_of (after (entry_move n x) signal (λ t. quiet (class_of (given_automaton n m) n t)))
    label_entry x = go (dec_lt x n)
      where
        go : Dec (x < n) → label_of n c.of_states x ≡ entry_of (after (entry_move n x) signal (λ t. quiet (class_of (given_automaton n m) n t)))
        go (yes h) = rw (lt-ltb x n h) (numbered_class x h)
        go (no h) = let k : n ≤ x = omega arith in rw (le-ltb x n k)

    -- what is carried over are the merged moves
    pub carried_moves : (before after : List ℕ) → after ≡ front (zone_count * c.count) (carried n m c) before
        → after ≡ merged_moves n m ++ drop (zone_count * merged_count n m) before
    unfolding front merged_moves merged_move
    carried_moves before after e =
        let same : (k : ℕ) → k < zone_count * merged_count n m
        → carried n m c k ≡ entry_of (merged_move (given_automaton n m) n (k / zone_count) (k % zone_count)) =
        λ k h.
        ap (λ s. label_of n c.of_states (at m (zone_count * s + k % zone_count))) (numbered_first (k / zone_count) (omega arith))
        ∙ label_entry (at m (zone_count * first_of (given_automaton n m) n (k / zone_count) + k % zone_count)) in
        e ∙ ap (λ x. tab (zone_count * x) (carried n m c) ++ drop (zone_count * x) before) numbered_count
        ∙ ap (λ x. x ++ drop (zone_count * merged_count n m) before) (tab_cong (zone_count * merged_count n m) _ _ same)

    -- the moves can be carried over
    pub carry_can : (merged : List ℕ) → Mergeable n m merged → CanCarry n m c merged
    unfolding merged_count
    carry_can merged room = record {
      few = room.few;
      fewer = omega (arith, numbered_count, count_most (given_automaton n m) n);
      first_below = first_below;
      moves_room = room.moves;
      merged_room = room.room;
    }

-- ---- by evaluation: the lists of leaders, one round after the other

unfoldable pub rounds : ℕ → List ℕ → ℕ → List ℕ
rounds n m zero = tab n (λ i. 0)
rounds n m (suc k) = tab n (next_leader n m (rounds n m k))

rounds_hold : (n : ℕ) (m : List ℕ) → n ≤ max_states → (k : ℕ) → HoldsLeaders n m (rounds n m k) k
unfolding rounds
rounds_hold n m few zero = none_held (λ i h. get_d_tab n (λ i. 0) i h)
rounds_hold n m few (suc k) =
    let p = rounds_hold n m few k in
    record { is = λ i h. get_d_tab n (next_leader n m (rounds n m k)) i h ∙ next_leader_lem few p i }

-- so many states lead after as many rounds as there are states
pub count_rounds : (n : ℕ) (m : List ℕ) → n ≤ max_states → merged_count n m ≡ lead_before (at (rounds n m n)) n
unfolding merged_count class_count
count_rounds n m few = sym (led_leaders (rounds_hold n m few n) n (le_refl n))
