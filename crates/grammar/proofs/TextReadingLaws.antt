-- What is read, from an offset on, is so. Laws.
use Prim.Native.Nat.{ℕ, zero, suc, ◌+◌, ◌≤◌}
use Rattle.std.specs.Prelude.{◌≡◌, refl, Bool, true, false, cond, leb, drop}
use Rattle.std.proofs.Math.Path.{sym, ap}
use Rattle.std.proofs.Common.{◌∙◌, drop_of_length-le, length-drop, leb-true, leb-false}
use mathlib.Core.List.{List, [], ◌∷◌, ◌++◌, append_assoc}
use native.Mathlib.Omega.{arith}
use Rattle.std.proofs.Math.ListN.{length}
use Rattle.decimal.specs.Spans.{Spans}
use Rattle.decimal.specs.SpansLaws.{spans_then}
use Rattle.std.proofs.Math.Option.{none, some}
use Rattle.grammar.specs.Form.{bytes_said, Form, Said, saying}
use Rattle.grammar.specs.Grammar.{once, often, perhaps, Grammar, Contents, many_lines, any_line}
use Rattle.grammar.specs.Grammar.{lines_of, bytes_of_all, AllFit, TextIs}
use Rattle.grammar.specs.Blocks.{Begins, StopsBy, more, here, then, among, past, given, absent}
use Rattle.grammar.specs.TextReading.{on_seen, seen, many_at, after_many}
use Rattle.grammar.specs.Read.{Seen, found, other}
use Rattle.grammar.specs.TextReading.{also, read_at}
use Rattle.grammar.specs.Read.{Reading, read, stopped, long}
use Rattle.grammar.proofs.FormLaws.{Stands, form_ahead, some_bytes, Look, looked}
use Rattle.grammar.proofs.LinesLaws.{bytes_append, fit_append}

-- ---- many lines: they stand there, up to one that is none

module _ (f : Form) (s : List ℕ) where
  pub record Lines (at : ℕ) (xs : List (Said f)) (end : ℕ) : Type 0 where
    pub spans : Spans s at (bytes_of_all (many_lines f xs)) end
    pub fit : AllFit (many_lines f xs)

  no_lines : (at : ℕ) → Lines at [] at
  unfolding many_lines bytes_of_all AllFit
  no_lines at = record { spans = record { text = refl; end = omega arith }; fit = tt }

  one_more : {at next end : ℕ} {xs : List (Said f)} (x : Said f) → Stands s at (saying f x) next → Lines next xs end
      → Lines at (x ∷ xs) end
  unfolding many_lines bytes_of_all AllFit
  one_more x i r = record { spans = spans_then i.spans r.spans; fit = (i.fits, r.fit) }

  pub many_stand : (fuel at : ℕ) → Lines at (many_at f fuel s at) (after_many f fuel s at)
  unfolding many_at after_many
  many_stand zero at = no_lines at
  many_stand (suc fuel) at = go (seen f s at) (looked s at f) (λ next. many_stand fuel next)
    where
      go : (y : Seen (Said f)) → Look s at f y
          → ((next : ℕ) → Lines next (many_at f fuel s next) (after_many f fuel s next))
          → Lines at (on_seen y (λ x next. x ∷ many_at f fuel s next) []) (on_seen y (λ x next. after_many f fuel s next) at)
      go (found x next) i r = one_more x i (r next)
      go other n r = no_lines at

  -- the fuel is enough: where they end, the bytes begin with none
  pub many_end : (fuel at : ℕ) → length s ≤ at + fuel → Begins f (drop (after_many f fuel s at) s) → ⊥
  unfolding after_many
  many_end zero at h b =
      let l : length s ≤ at = omega arith in
      some_bytes (saying f b.says) b.behind b.fits (sym (drop_of_length-le s l) ∙ b.bytes)
  many_end (suc fuel) at h b = go (seen f s at) (looked s at f) (λ next. many_end fuel next) b
    where
      go : (y : Seen (Said f)) → Look s at f y
          → ((next : ℕ) → length s ≤ next + fuel → Begins f (drop (after_many f fuel s next) s) → ⊥)
          → Begins f (drop (on_seen y (λ x next. after_many f fuel s next) at) s) → ⊥
      go (found x next) i r b = r next (omega (arith, form_ahead f x i)) b
      go other n r b = n b

-- ---- whole texts

-- of the bytes t, whose first line is line n
abbrev pub Right : (g : Grammar) → List ℕ → ℕ → Reading (Contents g) → Type 0
Right g t n (read c) = TextIs g c t
Right g t n (stopped m) = (p : ℕ) × (m + 1 ≡ n + p) × StopsBy g t p
Right g t n long = ⊥

-- behind many lines
pub among_many : {g : Grammar} {t : List ℕ} {p : ℕ} (f : Form) (xs : List (Said f)) → AllFit (many_lines f xs)
    → (Begins f t → ⊥) → StopsBy g t p
    → StopsBy (often f ∷ g) (bytes_of_all (many_lines f xs) ++ t) (length xs + p)
unfolding many_lines bytes_of_all AllFit
among_many {p = p} f [] a n st = let e : 0 + p ≡ p = omega arith in rw e (past n st)
among_many {t = t} {p = p} f (x ∷ xs) a n st =
    let e : length (x ∷ xs) + p ≡ suc (length xs + p) = omega arith in
    rw (append_assoc (bytes_said (saying f x)) (bytes_of_all (many_lines f xs)) t, e)
    (among x a.0 (among_many f xs a.1 n st))

-- and many lines taken together
pub record Run (f : Form) (g : Grammar) (t : List ℕ) (p : ℕ) : Type 0 where
  pub lines : List (Said f)
  pub fit : AllFit (many_lines f lines)
  pub rest : List ℕ
  pub bytes : t ≡ bytes_of_all (many_lines f lines) ++ rest
  pub end : Begins f rest → ⊥
  pub place : ℕ
  pub count : p ≡ length lines + place
  pub stop : StopsBy g rest place

pub run : {f : Form} {g : Grammar} {t : List ℕ} {p : ℕ} → StopsBy (often f ∷ g) t p → Run f g t p
unfolding many_lines bytes_of_all AllFit
run (past {s =
    t} {n =
    p} n st) =
    record { lines = []; fit = tt; rest = t; bytes = refl; end = n; place = p; count = omega arith; stop = st }
run {f} (among x r st) =
    let q = run st in
    record {
      lines = x ∷ q.lines;
      fit = (r, q.fit);
      rest = q.rest;
      bytes =
          ap (λ (l : List ℕ). bytes_said (saying f x) ++ l) q.bytes
          ∙ sym (append_assoc (bytes_said (saying f x)) (bytes_of_all (many_lines f q.lines)) q.rest);
      end = q.end;
      place = q.place;
      count = omega (arith, q.count);
      stop = q.stop;
    }

module _ (s : List ℕ) (f : Form) (g : Grammar) {at next : ℕ} (n : ℕ) where
  right_once : (x : Said f) (y : Reading (Contents g)) → Stands s at (saying f x) next
      → Right g (drop next s) (n + 1) y → Right (once f ∷ g) (drop at s) n (also x y)
  unfolding lines_of bytes_of_all AllFit
  right_once x (read c) i r =
      record {
        bytes =
            i.spans.text ∙ ap (λ (t : List ℕ). bytes_said (saying f x) ++ t) r.bytes;
        fit = (i.fits, r.fit);
      }
  right_once x (stopped m) i r = (suc r.0, omega (arith, r.1), rw i.spans.text (then x i.fits r.2))
  right_once x long i r = r

  right_often : (xs : List (Said f)) (y : Reading (Contents g)) → Lines f s at xs next
      → (Begins f (drop next s) → ⊥) → Right g (drop next s) (n + length xs) y
      → Right (often f ∷ g) (drop at s) n (also xs y)
  unfolding lines_of
  right_often xs (read c) i m r =
      let ls = many_lines f xs in
      record {
        bytes = i.spans.text ∙ ap (λ (t : List ℕ). bytes_of_all ls ++ t) r.bytes
            ∙ sym (bytes_append ls (lines_of g c));
        fit = fit_append ls (lines_of g c) i.fit r.fit;
      }
  right_often xs (stopped p) i m r =
      (length xs + r.0, omega (arith, r.1), rw i.spans.text (among_many f xs i.fit m r.2))
  right_often xs long i m r = r

  right_given : (x : Said f) (y : Reading (Contents g)) → Stands s at (saying f x) next
      → Right g (drop next s) (n + 1) y → Right (perhaps f ∷ g) (drop at s) n (also (some x) y)
  unfolding lines_of any_line bytes_of_all AllFit
  right_given x (read c) i r =
      record {
        bytes = i.spans.text ∙ ap (λ (t : List ℕ). bytes_said (saying f x) ++ t) r.bytes;
        fit = (i.fits, r.fit);
      }
  right_given x (stopped m) i r = (suc r.0, omega (arith, r.1), rw i.spans.text (given x i.fits r.2))
  right_given x long i r = r

right_absent : (s : List ℕ) (f : Form) (g : Grammar) (at n : ℕ) (y : Reading (Contents g)) → (Begins f (drop at s) → ⊥)
    → Right g (drop at s) n y
    → Right (perhaps f ∷ g) (drop at s) n (also none y)
unfolding lines_of any_line
right_absent s f g at n (read c) m r = record { bytes = r.bytes; fit = r.fit }
right_absent s f g at n (stopped p) m r = (r.0, r.1, absent m r.2)
right_absent s f g at n long m r = r

pub sound : (s : List ℕ) (g : Grammar) (at n : ℕ) → Right g (drop at s) n (read_at g s at n)
unfolding read_at lines_of bytes_of_all AllFit
sound s [] at n = go (leb (length s) at) refl
  where
    go : (b : Bool) → leb (length s) at ≡ b → Right [] (drop at s) n (cond b (read tt) (stopped n))
    go true e = record { bytes = drop_of_length-le s (leb-true _ _ e); fit = tt }
    go false e =
        (1, refl, more {s = drop at s} (λ q. omega (arith, ap length q, length-drop at s, leb-false (length s) at e)))
sound s (once f ∷ g) at n = go (seen f s at) (looked s at f) (λ next. sound s g next (n + 1))
  where
    go : (y : Seen (Said f)) → Look s at f y → ((next : ℕ) → Right g (drop next s) (n + 1) (read_at g s next (n + 1)))
        → Right (once f ∷ g) (drop at s) n (on_seen y (λ x next. also x (read_at g s next (n + 1))) (stopped n))
    go (found x next) i r = right_once s f g n x (read_at g s next (n + 1)) i (r next)
    go other m r = (1, refl, here m)
sound s (often f ∷ g) at n =
    let xs = many_at f (length s) s at in
    let end = after_many f (length s) s at in
    right_often s f g n xs (read_at g s end (n + length xs)) (many_stand f s (length s) at)
    (many_end f s (length s) at (omega arith))
    (sound s g end (n + length xs))
sound s (perhaps f ∷ g) at n =
    go (seen f s at) (looked s at f) (λ next. sound s g next (n + 1)) (sound s g at n)
  where
    go : (y : Seen (Said f)) → Look s at f y → ((next : ℕ) → Right g (drop next s) (n + 1) (read_at g s next (n + 1)))
        → Right g (drop at s) n (read_at g s at n)
        → Right (perhaps f ∷ g) (drop at s) n
        (on_seen y (λ x next. also (some x) (read_at g s next (n + 1))) (also none (read_at g s at n)))
    go (found x next) i r q = right_given s f g n x (read_at g s next (n + 1)) i (r next)
    go other m r q = right_absent s f g at n (read_at g s at n) m q
