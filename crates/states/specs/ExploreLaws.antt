-- One turn on two lists of which the first n and the first k are in use, and the turns one after the other.
use Rattle.std.specs.Prelude.{ℕ, suc, ◌+◌, ◌*◌, ◌/◌, ◌%◌, ◌<◌, ◌≤◌, ◌≡◌, refl, Bool, true, false, cond, Some, None, eqb, ltb, get_or, take, set, position}
use Rattle.std.proofs.Math.Path.{ap, sym}
use Rattle.std.proofs.Common.{◌∙◌, arith, add-one, length-append, get_or-take, take-suc-set}
use mathlib.Core.List.{List, [], ◌∷◌, ◌++◌}
use Rattle.std.proofs.Math.Nat.{mul-le-mul_left}
use borrow.Author.Tests.{lt-ltb, le-ltb, le-leb}
use Rattle.std.specs.List.{position_or_len}
use Rattle.std.proofs.lemmas.Bool.{ltb-false}
use Rattle.std.proofs.lemmas.Option.{none-some}
use Rattle.std.proofs.lemmas.List.Recursion.{is_position_or_len}
use Rattle.std.proofs.lemmas.List.Sums.{position_or_len_is}
use Rattle.std.proofs.lemmas.List.Quantifiers.{position-Some}
use Rattle.std.proofs.Math.ListN.{length, length-set}
use Rattle.std.proofs.Math.Seq.{length-take-le}
use Rattle.rules.specs.Bounds.{max_states}
use Rattle.runlength.specs.Automaton.{Automaton, quiet, signal}
use Rattle.runlength.specs.Index.{index_of}
use Rattle.states.specs.States.{Met, with_state, Worklist, worklist, enter, busy, due, next, turns, explored, states, moves}
use Rattle.runlength.specs.IndexLaws.{index_state, index_le}
use Rattle.states.specs.WorklistLaws.{turns_sound, full_idle, over_idle, idle_explored}
use Rattle.states.specs.Explore.{Visited, Exceeds, Explored}

-- ---- the index of a state among the first n, by the library's search

index_first : (t : ℕ) (xs : List ℕ) → index_of t xs ≡ position_or_len (λ s. eqb s t) xs
unfolding index_of
index_first t xs = is_position_or_len (index_of t) (λ s. eqb s t) refl (λ x xs. ap (cond (eqb x t) 0) (next xs)) xs
  where
    next : (xs : List ℕ) → suc (index_of t xs) ≡ 1 + index_of t xs
    next xs = omega arith

none_below : (p long : ℕ) → None ≡ cond (ltb p long) (Some p) None → long ≤ p
none_below p long e = go (ltb p long) refl e
  where
    go : (b : Bool) → ltb p long ≡ b → None ≡ cond b (Some p) None → long ≤ p
    go true q e = absurd (none-some p e)
    go false q e = ltb-false p long q

-- the index of a state among the first n is at most n
pub index_small : {j : ℕ} (t n : ℕ) (f : List ℕ) → n ≤ length f → j ≡ index_of t (take n f) → j ≤ n
index_small t n f h q = omega (arith, index_le t (take n f), length-take-le n f h)

module _ (t n : ℕ) (f : List ℕ) (fits : n ≤ length f) where
  pub index_found : {j : ℕ} → Some j ≡ position (λ s. eqb s t) (take n f) → (j ≡ index_of t (take n f)) × (j < n)
  index_found {j} e =
      let p = position-Some (λ s. eqb s t) (take n f) j 0 (sym e) in (
        sym (index_first t (take n f) ∙ position_or_len_is (λ s. eqb s t) (take n f) j 0 (omega arith) p.2 (λ _. p.1)),
        omega (arith, p.0, length-take-le n f fits),
      )

  pub index_missing : None ≡ position (λ s. eqb s t) (take n f) → n ≡ index_of t (take n f)
  index_missing e = omega (
    arith,
    index_le t (take n f),
    length-take-le n f fits,
    index_first t (take n f),
    none_below (position_or_len (λ s. eqb s t) (take n f)) (length (take n f)) e,
  )

-- ---- one turn

module _ (a : Automaton ℕ) (f m : List ℕ) (n k : ℕ) (few : n ≤ max_states) (below : k < a.zones * n) (lf : length f ≡ max_states)
    (lm : length m ≡ a.zones * max_states) where
  n_long : length (take n f) ≡ n
  n_long = length-take-le n f (omega arith)

  k_room : k < length m
  k_room = omega (arith, mul-le-mul_left {m = n} {n = max_states} a.zones few)

  k_long : length (take k m) ≡ k
  k_long = length-take-le k m (omega (arith, k_room))

  turn_busy : busy a (worklist (take n f) (take k m)) ≡ true
  unfolding busy
  turn_busy = rw (n_long, k_long, lt-ltb _ _ below, le-leb _ _ few)

  turn_due : due a (worklist (take n f) (take k m)) ≡ a.move (get_or f (k / a.zones) 0) (k % a.zones)
  unfolding due
  turn_due =
      ap (λ (i : ℕ). a.move (get_or (take n f) (i / a.zones) 0) (i % a.zones)) k_long
      ∙ ap (λ (s : ℕ). a.move s (k % a.zones)) (get_or-take n f (k / a.zones) 0 (index_state a.zones n k below))

  turn : next a (worklist (take n f) (take k m)) ≡ enter (worklist (take n f) (take k m)) (a.move (get_or f (k / a.zones) 0) (k % a.zones))
  unfolding next
  turn = rw (turn_busy, turn_due)

  one_more : (x : ℕ) → take k m ++ x ∷ [] ≡ take (k + 1) (set m k x)
  one_more x = rw (add-one k, take-suc-set m k x k_room)

  pub turn_signal : a.move (get_or f (k / a.zones) 0) (k % a.zones) ≡ signal → Visited a f m f (set m k max_states) n k n
  unfolding enter
  turn_signal e = record { most = few; least = omega arith; is = rw (turn, e, one_more max_states) }

  module _ (t : ℕ) (e : a.move (get_or f (k / a.zones) 0) (k % a.zones) ≡ quiet t) where
    pub turn_known : (j : ℕ) → (j ≡ index_of t (take n f)) × (j < n) → Visited a f m f (set m k j) n k n
    unfolding enter with_state
    turn_known j q = record {
      most = few;
      least = omega arith;
      is = simp (turn, e, ← q.0, n_long, lt-ltb _ _ q.1, one_more);
    }

    module _ (j : ℕ) (q : j ≡ index_of t (take n f)) where
      turn_grows : n ≤ j → next a (worklist (take n f) (take k m)) ≡ worklist (take n f ++ t ∷ []) (take (k + 1) (set m k j))
      unfolding enter with_state
      turn_grows l = simp (turn, e, ← q, n_long, le-ltb _ _ l, one_more)

      turn_grown : n ≤ j → n + 1 ≡ length (next a (worklist (take n f) (take k m))).found
      turn_grown l = rw (turn_grows l, length-append (take n f) (t ∷ []), n_long)

      pub turn_new : n ≤ j → n < max_states → Visited a f m (set f n t) (set m k j) n k (n + 1)
      turn_new l h = record {
        most = omega arith;
        least = omega arith;
        is = rw (turn_grows l, add-one n, take-suc-set f n t (omega arith));
      }

      pub turn_over : n ≤ j → max_states ≤ n → Exceeds a f m n k
      turn_over l h = record { count = omega (arith, turn_grown l) }

-- ---- the turns one after the other

module _ (a : Automaton ℕ) where
  -- the first n and the first k of the two lists are the worklist after k turns
  pub record Exploring (f m : List ℕ) (n k : ℕ) : Type 0 where
    pub some : 1 ≤ n
    pub few : n ≤ max_states
    pub at : k ≤ a.zones * n
    pub lf : length f ≡ max_states
    pub lm : length m ≡ a.zones * max_states
    pub state : turns a k ≡ worklist (take n f) (take k m)

  -- the start alone, and no move
  pub explore_start : (f m : List ℕ) (s : ℕ) → length f ≡ max_states → length m ≡ a.zones * max_states → s ≡ a.start → Exploring (set f 0 s) m 1 0
  unfolding turns
  explore_start f m s lf lm e = record {
    some = omega arith;
    few = omega arith;
    at = omega arith;
    lf = length-set f 0 s ∙ lf;
    lm = lm;
    state = ap (λ (t : ℕ). worklist (t ∷ []) []) (sym e) ∙ ap (λ (l : List ℕ). worklist l []) (sym (take-suc-set f 0 s (omega arith)));
  }

  module _ {f m : List ℕ} {n k : ℕ} (w : Exploring f m n k) where
    -- no more entries than there is room for
    pub explore_room : k ≤ a.zones * max_states
    explore_room = omega (arith, w.at, mul-le-mul_left {m = n} {n = max_states} a.zones w.few)

    -- the state that the next move is of is met
    pub explore_met : k < a.zones * n → Met a (get_or f (k / a.zones) 0)
    explore_met h =
        let i = index_state a.zones n k h in
        let ln : length (take n f) ≡ n = length-take-le n f (omega arith) in
        let met = rw w.state at ((turns_sound a k).all_met.met (k / a.zones)) in
        rw (get_or-take n f (k / a.zones) 0 i) at (met (omega arith))

    pub explore_done : a.zones * n ≤ k → Explored a f m n
    unfolding states moves
    explore_done h =
        let e : a.zones * n ≡ k = omega (arith, w.at) in
        let ln : length (take n f) ≡ n = length-take-le n f (omega arith) in
        let lk : length (take k m) ≡ k = length-take-le k m (omega (arith, explore_room)) in
        let stop : busy a (turns a k) ≡ false = rw w.state (full_idle a (worklist (take n f) (take k m)) (rw (ln, lk) h)) in
        let whole : explored a ≡ worklist (take n f) (take k m) = idle_explored a k explore_room stop ∙ w.state in
        record {
          count = sym ln ∙ ap (λ (w : Worklist). length w.found) (sym whole);
          most = omega arith;
          found_states = λ _. ap (λ (w : Worklist). w.found) (sym whole);
          found_moves = λ _. rw e (ap (λ (w : Worklist). w.entries) (sym whole));
          found_length = w.lf;
          entries_length = w.lm;
        }

    turned : turns a (k + 1) ≡ next a (worklist (take n f) (take k m))
    unfolding turns
    turned = ap (turns a) (add-one k) ∙ ap (next a) w.state

    module _ {f' m' : List ℕ} (below : k < a.zones * n) (lf : length f' ≡ length f) (lm : length m' ≡ length m) where
      pub explore_more : {r : ℕ} → Visited a f m f' m' n k r → Exploring f' m' r (k + 1)
      explore_more {r} v = record {
        some = omega (arith, w.some, v.least);
        few = v.most;
        at = omega (arith, below, mul-le-mul_left {m = n} {n = r} a.zones v.least);
        lf = lf ∙ w.lf;
        lm = lm ∙ w.lm;
        state = turned ∙ v.is;
      }

      pub explore_over : Exceeds a f m n k → Explored a f' m' (max_states + 1)
      unfolding states
      explore_over v =
          let c : max_states + 1 ≡ length (turns a (k + 1)).found = rw turned (sym v.count) in
          let room : k + 1 ≤ a.zones * max_states = omega (arith, below, mul-le-mul_left {m = n} {n = max_states} a.zones w.few) in
          let whole : explored a ≡ turns a (k + 1) = idle_explored a (k + 1) room (over_idle a (turns a (k + 1)) (omega arith)) in
          record {
            count = c ∙ ap (λ (w : Worklist). length w.found) (sym whole);
            most = omega arith;
            found_states = λ q. absurd (omega arith);
            found_moves = λ q. absurd (omega arith);
            found_length = lf ∙ w.lf;
            entries_length = lm ∙ w.lm;
          }
