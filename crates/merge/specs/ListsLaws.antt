-- The numbering over three lists: one state more, and the classes of the merged chart. Laws.
use Rattle.std.specs.Prelude.{ℕ, ◌+◌, ◌*◌, ◌/◌, ◌%◌, ◌≤◌, ◌<◌, ◌≡◌, refl, List, ◌++◌, length, set, replicate}
use Rattle.std.proofs.Math.Path.{sym, ap}
use Rattle.std.proofs.Common.{◌∙◌, arith, le_refl, lt-ltb, le-ltb, get_or-set_same, get_or-set_other}
use Rattle.std.proofs.Math.Decide.{dec_lt}
use Rattle.std.proofs.Math.ListN.{drop}
use Rattle.std.proofs.lemmas.List.{length-replicate}
use Rattle.rules.specs.Bounds.{zone_count, max_states}
use Rattle.runlength.specs.Sum.{at, sum, tab, front}
use Rattle.runlength.specs.TabLaws.{tab_cong}
use Rattle.runlength.specs.Automaton.{quiet, signal, after}
use Rattle.runlength.specs.Listed.{entry_move}
use Rattle.runlength.specs.Merged.{lead_before, leader_for, class_count, class_of, first_of, merged_move}
use Rattle.runlength.proofs.LeadLaws.{lead_one, lead_none, lead_less, lead_most}
use Rattle.runlength.proofs.ClassLaws.{leader_most}
use Rattle.runlength.proofs.MergedLaws.{class_leads, count_most, first_of_lem}
use Rattle.merge.specs.Merge.{entry_of, given_automaton, merged_count, merged_moves, Mergeable}
use Rattle.merge.specs.Rounds.{label_of, HoldsLeaders}
use Rattle.merge.specs.NumberingLaws.{leaders_led, led_leaders}
use Rattle.merge.specs.Lists.{Numbered, Numberable, CanNumber, carried, CanCarry}

-- ---- one state more

module _ {l classes firsts : List ℕ} {i count : ℕ} (p : CanNumber l classes firsts i count) where
  -- no more classes than states
  pub count_fits : count ≤ i
  count_fits = omega (arith, p.so_far.counted, lead_most (at l) i)

  -- the first of a class
  pub number_first : at l i ≡ i → Numbered l (set classes i count) (set firsts count i) (i + 1) (count + 1)
  number_first e = record {
    counted = omega (arith, p.so_far.counted, lead_one (at l) i e);
    class_is = λ s h. class s h (dec_lt s i);
    first_is = λ s h f. first s h f (dec_lt s i);
  }
    where
      class : (s : ℕ) → s < i + 1 → Dec (s < i) → at (set classes i count) s ≡ lead_before (at l) (at l s)
      class s h (yes k) = get_or-set_other classes i s count 0 (omega arith) ∙ p.so_far.class_is s k
      class s h (no k) =
          let d : s ≡ i = omega arith in
          rw d (get_or-set_same classes i count 0 p.classes_room ∙ p.so_far.counted ∙ ap (lead_before (at l)) (sym e))

      first : (s : ℕ) → s < i + 1 → at l s ≡ s → Dec (s < i) → at (set firsts count i) (lead_before (at l) s) ≡ s
      first s h f (yes k) =
          get_or-set_other firsts count (lead_before (at l) s) i 0 (omega (arith, lead_less (at l) s i f k, p.so_far.counted))
          ∙ p.so_far.first_is s k f
      first s h f (no k) =
          let d : s ≡ i = omega arith in
          rw (d, sym p.so_far.counted) (get_or-set_same firsts count i 0 (omega (arith, count_fits, p.firsts_room)))

  -- another one
  pub number_other : (leader : ℕ) → leader ≡ at l i → (leader ≡ i → ⊥) → Numbered l (set classes i (at classes leader)) firsts (i + 1) count
  number_other leader q other = record {
    counted = omega (arith, p.so_far.counted, lead_none (at l) i e);
    class_is = λ s h. class s h (dec_lt s i);
    first_is = λ s h f. first s h f (dec_lt s i);
  }
    where
      e : at l i ≡ i → ⊥
      e d = other (q ∙ d)

      before : leader < i
      before = omega (arith, p.led.most)

      class : (s : ℕ) → s < i + 1 → Dec (s < i) → at (set classes i (at classes leader)) s ≡ lead_before (at l) (at l s)
      class s h (yes k) = get_or-set_other classes i s (at classes leader) 0 (omega arith) ∙ p.so_far.class_is s k
      class s h (no k) =
          let d : s ≡ i = omega arith in
          rw d
          (get_or-set_same classes i (at classes leader) 0 p.classes_room ∙ p.so_far.class_is leader before
          ∙ ap (λ x. lead_before (at l) (at l x)) q ∙ ap (lead_before (at l)) p.led.leads)

      first : (s : ℕ) → s < i + 1 → at l s ≡ s → Dec (s < i) → at firsts (lead_before (at l) s) ≡ s
      first s h f (yes k) = p.so_far.first_is s k f
      first s h f (no k) = let d : s ≡ i = omega arith in absurd (e (rw d at f))

-- ---- all states

-- to begin with no state has a class
pub numbered_none : (l classes firsts : List ℕ) → Numbered l classes firsts 0 0
unfolding lead_before sum
numbered_none l classes firsts =
    record { counted = refl; class_is = λ s h. absurd (omega arith); first_is = λ s h e. absurd (omega arith) }

module _ {n : ℕ} {l classes₀ firsts₀ classes firsts : List ℕ} {i count : ℕ} where
  -- one more can be numbered
  pub number_can : Numberable n l classes₀ firsts₀ → length classes ≡ length classes₀ → length firsts ≡ length firsts₀ → i < n
      → Numbered l classes firsts i count → CanNumber l classes firsts i count
  number_can p d e h q = record {
    few = omega (arith, p.few);
    led = p.led i h;
    leaders_room = omega (arith, p.leaders_room);
    classes_room = omega (arith, p.classes_room);
    firsts_room = omega (arith, p.firsts_room);
    so_far = q;
  }

-- after all states
pub numbered_all : {n : ℕ} {l classes firsts : List ℕ} {i count : ℕ} → Numbered l classes firsts i count → i ≡ n
    → Numbered l classes firsts n count
numbered_all q e = rw e at q

-- ---- an entry of the merged moves

module _ {n : ℕ} {m classes firsts merged : List ℕ} {count : ℕ} (p : CanCarry n m classes firsts merged count) (k : ℕ)
    (h : k < zone_count * count) where
  class_in : k / zone_count < count
  class_in = omega arith

  -- the class has a first state, and that state its move
  pub carry_first : k / zone_count < length firsts
  carry_first = omega (arith, class_in, p.fewer, p.firsts_room)

  pub carry_entry : zone_count * at firsts (k / zone_count) + k % zone_count < zone_count * n
  carry_entry = omega (arith, p.first_below (k / zone_count) class_in)

-- ---- by the leaders of all continuations

module _ {n : ℕ} {m l : List ℕ} (p : HoldsLeaders n m l n) where
  module _ {classes firsts : List ℕ} {count : ℕ} (q : Numbered l classes firsts n count) where
    -- so many classes
    pub numbered_count : count ≡ merged_count n m
    unfolding merged_count class_count
    numbered_count = q.counted ∙ led_leaders p n (le_refl n)

    numbered_class : (i : ℕ) → i < n → at classes i ≡ class_of (given_automaton n m) n i
    unfolding class_of
    numbered_class i h =
        let most = leader_most (given_automaton n m) n i in
        q.class_is i h ∙ ap (lead_before (at l)) (p.is i h) ∙ led_leaders p (leader_for (given_automaton n m) n i) (omega arith)

    -- the first state of a class
    numbered_first : (c : ℕ) → c < merged_count n m → at firsts c ≡ first_of (given_automaton n m) n c
    unfolding merged_count
    numbered_first c h =
        let f = first_of_lem (given_automaton n m) n c h in
        let s = first_of (given_automaton n m) n c in
        let number : lead_before (at l) s ≡ c =
        led_leaders p s (omega (arith, f.below)) ∙ sym (class_leads (given_automaton n m) n s f.leads) ∙ f.class in
        ap (at firsts) (sym number) ∙ q.first_is s f.below (p.is s f.below ∙ f.leads)

    -- the first states are among the n
    pub first_below : (c : ℕ) → c < count → at firsts c < n
    unfolding merged_count
    first_below c h =
        let i : c < merged_count n m = omega (arith, numbered_count) in
        omega (arith, numbered_first c i, (first_of_lem (given_automaton n m) n c i).below)

    label_entry : (x : ℕ) → label_of n classes x ≡ entry_of (after (entry_move n x) signal (λ t. quiet (class_of (given_automaton n m) n t)))
    label_entry x = go (dec_lt x n)
      where
        go : Dec (x < n) → label_of n classes x ≡ entry_of (after (entry_move n x) signal (λ t. quiet (class_of (given_automaton n m) n t)))
        go (yes h) = rw (lt-ltb x n h) (numbered_class x h)
        go (no h) = let k : n ≤ x = omega arith in rw (le-ltb x n k)

    -- what is carried over are the merged moves
    pub carried_moves : (before after : List ℕ) → after ≡ front (zone_count * count) (carried n m classes firsts) before
        → after ≡ merged_moves n m ++ drop (zone_count * merged_count n m) before
    unfolding front merged_moves merged_move
    carried_moves before after e =
        let same : (k : ℕ) → k < zone_count * merged_count n m
        → carried n m classes firsts k ≡ entry_of (merged_move (given_automaton n m) n (k / zone_count) (k % zone_count)) =
        λ k h.
        ap (λ s. label_of n classes (at m (zone_count * s + k % zone_count))) (numbered_first (k / zone_count) (omega arith))
        ∙ label_entry (at m (zone_count * first_of (given_automaton n m) n (k / zone_count) + k % zone_count)) in
        e ∙ ap (λ c. tab (zone_count * c) (carried n m classes firsts) ++ drop (zone_count * c) before) numbered_count
        ∙ ap (λ x. x ++ drop (zone_count * merged_count n m) before) (tab_cong (zone_count * merged_count n m) _ _ same)

    -- the moves can be carried over
    pub carry_can : n ≤ max_states → zone_count * n ≤ length m → n ≤ length classes → n ≤ length firsts → (merged : List ℕ)
        → zone_count * n ≤ length merged → CanCarry n m classes firsts merged count
    unfolding merged_count
    carry_can few moves classes_room firsts_room merged room = record {
      few = few;
      fewer = omega (arith, numbered_count, count_most (given_automaton n m) n);
      first_below = first_below;
      moves_room = moves;
      classes_room = classes_room;
      firsts_room = firsts_room;
      merged_room = room;
    }

-- ---- the lists of zeros that merging begins with

module _ {n : ℕ} {m merged : List ℕ} (p : Mergeable n m merged) where
  -- the states can be numbered
  pub number_of : {l : List ℕ} → HoldsLeaders n m l n → length l ≡ max_states
      → Numberable n l (replicate max_states 0) (replicate max_states 0)
  number_of q e = record {
    few = p.few;
    led = leaders_led q;
    leaders_room = omega (arith, p.few);
    classes_room = omega (arith, p.few, length-replicate {A = ℕ} max_states 0);
    firsts_room = omega (arith, p.few, length-replicate {A = ℕ} max_states 0);
  }
