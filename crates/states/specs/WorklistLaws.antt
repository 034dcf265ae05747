-- Laws of the worklist: what holds after each turn, and where it stops.
use Prim.Native.Nat.{ℕ, zero, suc, ◌+◌, ◌-◌, ◌*◌, ◌/◌, ◌%◌, ◌<◌, ◌≤◌}
use Rattle.std.proofs.Math.Path.{◌≡◌, refl, ap}
use Rattle.std.proofs.Common.{sym, ◌∙◌, subst, not-suc-le-zero, mul-le-mul_left, add-zero, add-suc, below_more}
use Rattle.std.specs.Prelude.{Bool, cond, ◌&&◌, List, [], ◌∷◌, ◌++◌, ◌⊎◌, get_or}
use Rattle.std.proofs.Math.Bool.{true, false, and-false}
use Rattle.std.proofs.Math.Logic.{inl, inr}
use native.Mathlib.Omega.{arith}
use Rattle.std.proofs.Math.Numerals.{add-one}
use borrow.Author.Tests.{ltb-true, ltb-false, leb-true, leb-false, le-ltb, lt-leb}
use Rattle.std.proofs.Math.Dec.{ltb, leb}
use Rattle.std.proofs.Math.ListN.{length, get_or-append}
use Rattle.std.proofs.Math.Seq.{get_or-append_seam}
use Rattle.rules.specs.Bounds.{max_states}
use Rattle.runlength.specs.Automaton.{Automaton, Move, quiet, signal}
use Rattle.runlength.specs.Index.{index_of}
use Rattle.states.specs.States.{Met, start, more, with_state, Worklist, worklist, enter, busy, due, next, turns, explored}
use Rattle.runlength.specs.Index.{Distinct}
use Rattle.states.specs.StateList.{Entry, AllMet, Right}
use Rattle.runlength.specs.IndexLaws.{index_state, index_zone, index_le, index_at, index_none, Grows, grows_none, grows_one, at_grows, snoc_length, snoc_each, snoc_distinct}

entry_grows : {f f' : List ℕ} → Grows f f' → (x : ℕ) (m : Move ℕ) → Entry f x m → Entry f' x m
entry_grows g x signal p = p
entry_grows g x (quiet t) p = at_grows g x t p

module _ (a : Automaton ℕ) where
  -- what holds after each turn
  pub record Sound (w : Worklist) : Type 0 where
    pub some : 0 < length w.found
    pub first : get_or w.found 0 0 ≡ a.start
    pub distinct : Distinct w.found
    pub all_met : AllMet a w.found
    pub most : length w.found ≤ max_states + 1
    pub short : length w.entries ≤ a.zones * length w.found
    pub right : Right a w.found w.entries

  right_more : (f f' m : List ℕ) (x : ℕ) → Grows f f' → length m < a.zones * length f → Right a f m
      → Entry f' x (a.move (get_or f (length m / a.zones) 0) (length m % a.zones)) → Right a f' (m ++ x ∷ [])
  right_more f f' m x g l old here = record {
    right = λ k h.
        below_more (λ (k : ℕ). Entry f' (get_or (m ++ x ∷ []) k 0) (a.move (get_or f' (k / a.zones) 0) (k % a.zones))) (length m)
        (λ k h.
        rw (get_or-append m (x ∷ []) 0 k h, g.same (k / a.zones) (index_state a.zones (length f) k (omega arith)))
        (entry_grows g (get_or m k 0) (a.move (get_or f (k / a.zones) 0) (k % a.zones)) (old.right k h)))
        (rw (get_or-append_seam m x [] 0, g.same (length m / a.zones) (index_state a.zones (length f) (length m) l)) here) k
        (omega (arith, snoc_length m x));
  }

  -- a busy worklist is short of the end, and not too long
  busy_below : (w : Worklist) → busy a w ≡ true → (length w.entries < a.zones * length w.found) × (length w.found ≤ max_states)
  unfolding busy
  busy_below w h = go (ltb (length w.entries) (a.zones * length w.found)) (leb (length w.found) max_states) refl refl h
    where
      go : (b d : Bool) → ltb (length w.entries) (a.zones * length w.found) ≡ b → leb (length w.found) max_states ≡ d → (b && d) ≡ true
          → (length w.entries < a.zones * length w.found) × (length w.found ≤ max_states)
      go true true p q h = (ltb-true _ _ p, leb-true _ _ q)
      go true false p q h = let z : ◌≡◌ {A = ℕ} 0 1 = cc in absurd (omega arith)
      go false d p q h = let z : ◌≡◌ {A = ℕ} 0 1 = cc in absurd (omega arith)

  enter_sound : (w : Worklist) → busy a w ≡ true → Sound w → (m : Move ℕ) → due a w ≡ m → Sound (enter w m)
  unfolding enter due with_state
  enter_sound w b g signal e =
      let h = busy_below w b in
      record {
        some = g.some;
        first = g.first;
        distinct = g.distinct;
        all_met = g.all_met;
        most = g.most;
        short = omega (arith, snoc_length w.entries max_states, h.0);
        right = right_more w.found w.found w.entries max_states (grows_none _) h.0 g.right (subst (Entry w.found max_states) (sym e) refl);
      }
  enter_sound w b g (quiet t) e = go (ltb (index_of t w.found) (length w.found)) refl
    where
      h : (length w.entries < a.zones * length w.found) × (length w.found ≤ max_states)
      h = busy_below w b

      here : Met a t
      here =
          more (length w.entries % a.zones) (g.all_met.met (length w.entries / a.zones) (index_state a.zones (length w.found) (length w.entries) h.0))
          (index_zone a.zones (length w.found) (length w.entries) h.0) e

      go : (b : Bool) → ltb (index_of t w.found) (length w.found) ≡ b
          → Sound (worklist (cond b w.found (w.found ++ t ∷ [])) (w.entries ++ index_of t w.found ∷ []))
      go true q = record {
        some = g.some;
        first = g.first;
        distinct = g.distinct;
        all_met = g.all_met;
        most = g.most;
        short = omega (arith, snoc_length w.entries (index_of t w.found), h.0);
        right = right_more w.found w.found w.entries (index_of t w.found) (grows_none _) h.0 g.right
            (subst (Entry w.found (index_of t w.found)) (sym e) (record { below = ltb-true _ _ q; is = index_at t w.found (ltb-true _ _ q) }));
      }
      go false q =
          let i : index_of t w.found ≡ length w.found = omega (arith, index_le t w.found, ltb-false (index_of t w.found) (length w.found) q) in
          record {
            some = omega (arith, snoc_length w.found t);
            first = get_or-append w.found (t ∷ []) 0 0 g.some ∙ g.first;
            distinct = snoc_distinct w.found t g.distinct (index_none t w.found (ltb-false _ _ q));
            all_met = record { met = snoc_each (Met a) w.found t g.all_met.met here };
            most = omega (arith, snoc_length w.found t, h.1);
            short = rw (snoc_length w.entries (index_of t w.found), snoc_length w.found t) (omega (arith, h.0));
            right = right_more w.found (w.found ++ t ∷ []) w.entries (index_of t w.found) (grows_one _ _) h.0 g.right
                (subst (Entry (w.found ++ t ∷ []) (index_of t w.found)) (sym e)
                (record { below = omega (arith, snoc_length w.found t); is = rw i (get_or-append_seam w.found t [] 0) }));
          }

  next_sound : (w : Worklist) → Sound w → Sound (next a w)
  unfolding next
  next_sound w g = go (busy a w) refl
    where
      go : (b : Bool) → busy a w ≡ b → Sound (cond b (enter w (due a w)) w)
      go true e = enter_sound w e g (due a w) refl
      go false e = g

  pub turns_sound : (k : ℕ) → Sound (turns a k)
  unfolding turns
  turns_sound zero = record {
    some = omega arith;
    first = refl;
    distinct = record { apart = λ i j l h q. omega arith };
    all_met = record { met = λ i h. let e : i ≡ 0 = omega arith in rw e start };
    most = omega arith;
    short = omega arith;
    right = record { right = λ k h. absurd (not-suc-le-zero h) };
  }
  turns_sound (suc k) = next_sound (turns a k) (turns_sound k)

  -- ---- where it stops

  pub full_idle : (w : Worklist) → a.zones * length w.found ≤ length w.entries → busy a w ≡ false
  unfolding busy
  full_idle w h = simp (le-ltb _ _ h)

  pub over_idle : (w : Worklist) → max_states < length w.found → busy a w ≡ false
  unfolding busy
  over_idle w h = simp (lt-leb _ _ h, and-false)

  idle_next : (w : Worklist) → busy a w ≡ false → next a w ≡ w
  unfolding next
  idle_next w h = rw h

  idle_stays : (k d : ℕ) → busy a (turns a k) ≡ false → turns a (k + d) ≡ turns a k
  unfolding turns
  idle_stays k zero h = ap (turns a) (add-zero k)
  idle_stays k (suc d) h = ap (turns a) (add-suc k d) ∙ ap (next a) (idle_stays k d h) ∙ idle_next (turns a k) h

  pub idle_explored : (k : ℕ) → k ≤ a.zones * max_states → busy a (turns a k) ≡ false → explored a ≡ turns a k
  unfolding explored
  idle_explored k l h =
      let e : k + (a.zones * max_states - k) ≡ a.zones * max_states = omega arith in
      ap (turns a) (sym e) ∙ idle_stays k (a.zones * max_states - k) h

  -- a turn that is no stop looks at one move more
  enter_length : (w : Worklist) (m : Move ℕ) → length (enter w m).entries ≡ suc (length w.entries)
  unfolding enter
  enter_length w signal = snoc_length w.entries max_states ∙ add-one _
  enter_length w (quiet t) = snoc_length w.entries (index_of t w.found) ∙ add-one _

  turns_length : (k : ℕ) → (busy a (turns a k) ≡ false) ⊎ (length (turns a k).entries ≡ k)
  unfolding turns next
  turns_length zero = inr refl
  turns_length (suc k) = go (busy a (turns a k)) refl (turns_length k)
    where
      go : (b : Bool) → busy a (turns a k) ≡ b → (busy a (turns a k) ≡ false) ⊎ (length (turns a k).entries ≡ k)
          → (busy a (cond b (enter (turns a k) (due a (turns a k))) (turns a k)) ≡ false)
          ⊎ (length (cond b (enter (turns a k) (due a (turns a k))) (turns a k)).entries ≡ suc k)
      go false e o = inl e
      go true e (inl x) = let z : ◌≡◌ {A = ℕ} 0 1 = cc in absurd (omega arith)
      go true e (inr x) = inr (enter_length (turns a k) (due a (turns a k)) ∙ ap suc x)

  idle_full : (w : Worklist) → busy a w ≡ false → length w.found ≤ max_states → a.zones * length w.found ≤ length w.entries
  unfolding busy
  idle_full w e h = go (ltb (length w.entries) (a.zones * length w.found)) refl e
    where
      go : (b : Bool) → ltb (length w.entries) (a.zones * length w.found) ≡ b → (b && leb (length w.found) max_states) ≡ false
          → a.zones * length w.found ≤ length w.entries
      go true p q = absurd (omega (arith, leb-false (length w.found) max_states q))
      go false p q = ltb-false _ _ p

  -- at the end every move of the states is looked at, unless there are too many
  pub explored_full : length (explored a).found ≤ max_states → length (explored a).entries ≡ a.zones * length (explored a).found
  unfolding explored
  explored_full h = go (turns_length (a.zones * max_states))
    where
      w : Worklist
      w = turns a (a.zones * max_states)

      go : (busy a w ≡ false) ⊎ (length w.entries ≡ a.zones * max_states) → length w.entries ≡ a.zones * length w.found
      go (inl b) = omega (arith, idle_full w b h, (turns_sound (a.zones * max_states)).short)
      go (inr l) =
          omega (arith, (turns_sound (a.zones * max_states)).short, mul-le-mul_left {m = length w.found} {n = max_states} a.zones h)
