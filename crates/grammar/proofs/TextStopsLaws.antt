-- Where a text stops block by block it stops. Laws.
use Rattle.std.specs.Prelude.{ℕ, suc, ◌≡◌, refl, ◌⊎◌}
use Rattle.std.proofs.Math.Path.{sym, ap}
use Rattle.std.proofs.Common.{◌∙◌, arith}
use Rattle.std.proofs.Math.Logic.{inl, inr}
use mathlib.Core.List.{List, [], ◌∷◌, ◌++◌, append_assoc}
use Rattle.std.proofs.Math.Option.{Option, none, some}
use Rattle.grammar.specs.Form.{Saying, bytes_said, Fits, Form, Said, saying}
use Rattle.grammar.specs.Grammar.{once, often, perhaps, Grammar, Contents, many_lines, any_line}
use Rattle.grammar.specs.Grammar.{lines_of, bytes_of_all, AllFit, Begun, Stops}
use Rattle.grammar.specs.Clear.{NotFirst, Ordered}
use Rattle.grammar.specs.Blocks.{Begins, StopsBy, more, here, then, among, past, given, absent}
use Rattle.grammar.proofs.LinesLaws.{same_head, same_tail, no_cons}
use Rattle.grammar.proofs.ClearLaws.{begun_nothing, not_first}

-- something behind the end
stop_more : (s : List ℕ) → (s ≡ [] → ⊥) → Stops [] s 1
unfolding lines_of bytes_of_all AllFit
stop_more s n =
    record {
      front = [];
      rest = s;
      bytes = refl;
      fit = tt;
      place = refl;
      begun = begun_nothing [];
      next = λ m r b behind e. no_cons b.lines;
      end = λ e c q. n e;
    }

-- the bytes s begin with the line a, which is of the form
begins_with : (f : Form) (s : List ℕ) (a : Saying) (y : Said f) (t : List ℕ) → Fits a → a ≡ saying f y
    → s ≡ bytes_said a ++ t → Begins f s
begins_with f s a y t r q e = record { says = y; fits = rw (← q) r; behind = t; bytes = rw (← q) e }

-- the first of these lines is of the form
begins_first : (f : Form) (s : List ℕ) (front : List Saying) (rest : List ℕ) {ls : List Saying} (y : Said f)
    → AllFit front
    → s ≡ bytes_of_all front ++ rest → front ≡ saying f y ∷ ls → Begins f s
unfolding bytes_of_all AllFit
begins_first f s [] rest y i e q = absurd (no_cons q)
begins_first f s (a ∷ front) rest y i e q =
    begins_with f s a y (bytes_of_all front ++ rest) i.0 (same_head q)
    (e ∙ append_assoc (bytes_said a) (bytes_of_all front) rest)

begins_next : (f : Form) (s : List ℕ) (front : List Saying) (rest : List ℕ) (m : Saying) (after : List ℕ) (behind : List Saying) {ls : List Saying} (y : Said f)
    → AllFit front → Fits m → s ≡ bytes_of_all front ++ rest → rest ≡ bytes_said m ++ after
    → (front ++ (m ∷ [])) ++ behind ≡ saying f y ∷ ls → Begins f s
unfolding bytes_of_all AllFit
begins_next f s [] rest m after behind y i r e h q = begins_with f s m y after r (same_head q) (e ∙ h)
begins_next f s (a ∷ front) rest m after behind y i r e h q =
    begins_with f s a y (bytes_of_all front ++ rest) i.0 (same_head q)
    (e ∙ append_assoc (bytes_said a) (bytes_of_all front) rest)

further : (s : List ℕ) (a : Saying) (front : List Saying) (rest : List ℕ) → s ≡ bytes_of_all front ++ rest
    → bytes_said a ++ s ≡ bytes_of_all (a ∷ front) ++ rest
unfolding bytes_of_all
further s a front rest e = ap (λ (t : List ℕ). bytes_said a ++ t) e
    ∙ sym (append_assoc (bytes_said a) (bytes_of_all front) rest)

module _ (f : Form) (g : Grammar) where
  -- the lines behind the first of many
  tail_often : NotFirst f g → (x : Said f) (c : Contents (often f ∷ g)) {ms : List Saying}
      → lines_of (often f ∷ g) c ≡ saying f x ∷ ms
      → (d : Contents (often f ∷ g)) × (lines_of (often f ∷ g) d ≡ ms)
  unfolding lines_of many_lines
  tail_often k x c {ms} e = go c.0 e
    where
      go : (ys : List (Said f)) → many_lines f ys ++ lines_of g c.1 ≡ saying f x ∷ ms
          → (d : Contents (often f ∷ g)) × (lines_of (often f ∷ g) d ≡ ms)
      go [] q = absurd (not_first f g k x c.1 q)
      go (y ∷ ys) q = ((ys, c.1), same_tail q)

  -- there are none of them, or the first line is one
  abbrev NoneOrFirst : Contents g → List Saying → Type 0
  NoneOrFirst c ms = (lines_of g c ≡ ms) ⊎ ((y : Said f) × (ls : List Saying) × (ms ≡ saying f y ∷ ls))

  first_often : (c : Contents (often f ∷ g)) {ms : List Saying} → lines_of (often f ∷ g) c ≡ ms → NoneOrFirst c.1 ms
  unfolding lines_of many_lines
  first_often c {ms} e = go c.0 e
    where
      go : (ys : List (Said f)) → many_lines f ys ++ lines_of g c.1 ≡ ms → NoneOrFirst c.1 ms
      go [] q = inl q
      go (y ∷ ys) q = inr (y, many_lines f ys ++ lines_of g c.1, sym q)

  -- the lines behind the one that may come
  tail_any : NotFirst f g → (x : Said f) (c : Contents (perhaps f ∷ g)) {ms : List Saying}
      → lines_of (perhaps f ∷ g) c ≡ saying f x ∷ ms → lines_of g c.1 ≡ ms
  unfolding lines_of any_line
  tail_any k x c {ms} e = go c.0 e
    where
      go : (o : Option (Said f)) → any_line f o ++ lines_of g c.1 ≡ saying f x ∷ ms → lines_of g c.1 ≡ ms
      go none q = absurd (not_first f g k x c.1 q)
      go (some y) q = same_tail q

  first_any : (c : Contents (perhaps f ∷ g)) {ms : List Saying} → lines_of (perhaps f ∷ g) c ≡ ms → NoneOrFirst c.1 ms
  unfolding lines_of any_line
  first_any c {ms} e = go c.0 e
    where
      go : (o : Option (Said f)) → any_line f o ++ lines_of g c.1 ≡ ms → NoneOrFirst c.1 ms
      go none q = inl q
      go (some y) q = inr (y, lines_of g c.1, sym q)

  module _ {s : List ℕ} where
    -- another line, or none
    stop_here : (Begins f s → ⊥) → Stops (once f ∷ g) s 1
    unfolding lines_of bytes_of_all AllFit
    stop_here n =
        record {
          front = [];
          rest = s;
          bytes = refl;
          fit = tt;
          place = refl;
          begun = begun_nothing (once f ∷ g);
          next = λ m r b behind e. n (begins_with f s m b.contents.0 behind r (sym (same_head b.lines)) e);
          end = λ e c q. no_cons (sym q);
        }

    -- behind a line of its form
    stop_behind : {n : ℕ} (x : Said f) → Fits (saying f x) → Stops g s n
        → Stops (once f ∷ g) (bytes_said (saying f x) ++ s) (suc n)
    unfolding lines_of AllFit
    stop_behind x r st =
        record {
          front = saying f x ∷ st.front;
          rest = st.rest;
          bytes = further s (saying f x) st.front st.rest st.bytes;
          fit = (r, st.fit);
          place = omega (arith, st.place);
          begun =
              record {
                contents = (x, st.begun.contents);
                behind = st.begun.behind;
                lines = ap (λ (ms : List Saying). saying f x ∷ ms) st.begun.lines;
              };
          next = λ m i b behind e. st.next m i (record { contents = b.contents.1; behind = b.behind; lines = same_tail b.lines }) behind e;
          end = λ e c q. st.end e c.1 (same_tail q);
        }

    -- behind one of many lines
    stop_among : NotFirst f g → {n : ℕ} (x : Said f) → Fits (saying f x) → Stops (often f ∷ g) s n
        → Stops (often f ∷ g) (bytes_said (saying f x) ++ s) (suc n)
    unfolding lines_of many_lines AllFit
    stop_among k x r st =
        record {
          front = saying f x ∷ st.front;
          rest = st.rest;
          bytes = further s (saying f x) st.front st.rest st.bytes;
          fit = (r, st.fit);
          place = omega (arith, st.place);
          begun =
              record {
                contents = (x ∷ st.begun.contents.0, st.begun.contents.1);
                behind = st.begun.behind;
                lines = ap (λ (ms : List Saying). saying f x ∷ ms) st.begun.lines;
              };
          next = λ m i b behind e.
              let d = tail_often k x b.contents b.lines in
              st.next m i (record { contents = d.0; behind = b.behind; lines = d.1 }) behind e;
          end = λ e c q. let d = tail_often k x c q in st.end e d.0 d.1;
        }

    -- where no more of them come
    stop_past : {n : ℕ} → (Begins f s → ⊥) → Stops g s n → Stops (often f ∷ g) s n
    unfolding lines_of many_lines
    stop_past no_more st =
        record {
          front = st.front;
          rest = st.rest;
          bytes = st.bytes;
          fit = st.fit;
          place = st.place;
          begun = record { contents = ([], st.begun.contents); behind = st.begun.behind; lines = st.begun.lines };
          next = next;
          end = end;
        }
      where
        next : (m : Saying) → Fits m → Begun (often f ∷ g) (st.front ++ (m ∷ [])) → (behind : List ℕ)
            → st.rest ≡ bytes_said m ++ behind → ⊥
        next m i b behind e = go (first_often b.contents b.lines)
          where
            go : NoneOrFirst b.contents.1 ((st.front ++ (m ∷ [])) ++ b.behind) → ⊥
            go (inl q) = st.next m i (record { contents = b.contents.1; behind = b.behind; lines = q }) behind e
            go (inr q) =
                no_more (begins_next f s st.front st.rest m behind b.behind q.0 st.fit i st.bytes e q.2)

        end : st.rest ≡ [] → (c : Contents (often f ∷ g)) → lines_of (often f ∷ g) c ≡ st.front → ⊥
        end e c q = go (first_often c q)
          where
            go : NoneOrFirst c.1 st.front → ⊥
            go (inl h) = st.end e c.1 h
            go (inr h) = no_more (begins_first f s st.front st.rest h.0 st.fit st.bytes h.2)

    -- behind the line that may come
    stop_given : NotFirst f g → {n : ℕ} (x : Said f) → Fits (saying f x) → Stops g s n
        → Stops (perhaps f ∷ g) (bytes_said (saying f x) ++ s) (suc n)
    unfolding lines_of any_line AllFit
    stop_given k x r st =
        record {
          front = saying f x ∷ st.front;
          rest = st.rest;
          bytes = further s (saying f x) st.front st.rest st.bytes;
          fit = (r, st.fit);
          place = omega (arith, st.place);
          begun =
              record {
                contents = (some x, st.begun.contents);
                behind = st.begun.behind;
                lines = ap (λ (ms : List Saying). saying f x ∷ ms) st.begun.lines;
              };
          next = λ m i b behind e.
              st.next m i
              (record { contents = b.contents.1; behind = b.behind; lines = tail_any k x b.contents b.lines })
              behind e;
          end = λ e c q. st.end e c.1 (tail_any k x c q);
        }

    -- where it does not come
    stop_absent : {n : ℕ} → (Begins f s → ⊥) → Stops g s n → Stops (perhaps f ∷ g) s n
    unfolding lines_of any_line
    stop_absent no_more st =
        record {
          front = st.front;
          rest = st.rest;
          bytes = st.bytes;
          fit = st.fit;
          place = st.place;
          begun = record { contents = (none, st.begun.contents); behind = st.begun.behind; lines = st.begun.lines };
          next = next;
          end = end;
        }
      where
        next : (m : Saying) → Fits m → Begun (perhaps f ∷ g) (st.front ++ (m ∷ [])) → (behind : List ℕ)
            → st.rest ≡ bytes_said m ++ behind → ⊥
        next m i b behind e = go (first_any b.contents b.lines)
          where
            go : NoneOrFirst b.contents.1 ((st.front ++ (m ∷ [])) ++ b.behind) → ⊥
            go (inl q) = st.next m i (record { contents = b.contents.1; behind = b.behind; lines = q }) behind e
            go (inr q) =
                no_more (begins_next f s st.front st.rest m behind b.behind q.0 st.fit i st.bytes e q.2)

        end : st.rest ≡ [] → (c : Contents (perhaps f ∷ g)) → lines_of (perhaps f ∷ g) c ≡ st.front → ⊥
        end e c q = go (first_any c q)
          where
            go : NoneOrFirst c.1 st.front → ⊥
            go (inl h) = st.end e c.1 h
            go (inr h) = no_more (begins_first f s st.front st.rest h.0 st.fit st.bytes h.2)

pub stops_by : (g : Grammar) → Ordered g → {s : List ℕ} {n : ℕ} → StopsBy g s n → Stops g s n
stops_by [] k {s} (more n) = stop_more s n
stops_by (once f ∷ g) k (here n) = stop_here f g n
stops_by (once f ∷ g) k (then x r st) = stop_behind f g x r (stops_by g k.1 st)
stops_by (often f ∷ g) k (among x r st) = stop_among f g k.1 x r (stops_by (often f ∷ g) k st)
stops_by (often f ∷ g) k (past n st) = stop_past f g n (stops_by g k.2 st)
stops_by (perhaps f ∷ g) k (given x r st) = stop_given f g k.1 x r (stops_by g k.2 st)
stops_by (perhaps f ∷ g) k (absent n st) = stop_absent f g n (stops_by g k.2 st)
