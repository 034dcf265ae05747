-- Reading one line and one block more, as the code does. Laws.
use Prim.Native.Nat.{ℕ, zero, suc, ◌+◌, ◌*◌, ◌≤◌, ◌<◌}
use Rattle.std.specs.Prelude.{◌≡◌, refl, List, [], ◌∷◌, get_or, Some}
use native.Mathlib.Omega.{arith}
use Rattle.std.proofs.Math.ListN.{length}
use Rattle.std.proofs.Common.{le-leb, ne_eqb}
use Rattle.std.proofs.lemmas.Bool.{lt-leb}
use Rattle.std.proofs.Math.Option.{none as nothing, some}
use Rattle.decimal.specs.SpansLaws.{spans_first, spans_within}
use Rattle.decimal.specs.Word.{word_at}
use Rattle.decimal.specs.WordLaws.{word_spans, word_absent}
use Rattle.grammar.specs.LineValues.{Field}
use Rattle.grammar.specs.Form.{named, Form, line, Said}
use Rattle.grammar.specs.Grammar.{once, often, perhaps, Grammar}
use Rattle.grammar.specs.TextReading.{on_seen, values_at, seen_kind, seen, many_at, after_many}
use Rattle.grammar.specs.Read.{Seen, found, other}
use Rattle.grammar.specs.TextReading.{also, read_at}
use Rattle.grammar.specs.Read.{read, stopped}
use Rattle.grammar.specs.FewestBytes.{least}
use Rattle.grammar.proofs.FormLaws.{Look, looked, form_ahead}

-- where a word stands, no line stands whose word begins with another letter
pub other_word : (s : List ℕ) (i a p : ℕ) (w : List ℕ) → word_at (a ∷ w) s i ≡ Some p → (b : ℕ) (v : List ℕ) (fs : List Field) → (a ≡ b → ⊥)
    → seen (line (named (b ∷ v) fs)) s i ≡ other
unfolding seen seen_kind values_at
other_word s i a p w e b v fs n =
    let f : get_or s i 0 ≡ a = spans_first (word_spans (a ∷ w) s i p e) in
    rw (word_absent s i b a v f (ne_eqb a b n))

-- and the text has not ended
pub word_inside : (s : List ℕ) (i a p : ℕ) (w : List ℕ) → word_at (a ∷ w) s i ≡ Some p → i < length s
word_inside s i a p w e =
    let u = word_spans (a ∷ w) s i p e in
    let t = spans_within (a ∷ w) (omega arith) u in
    omega (arith, t, u.end)

pub few_more : (l at next n most : ℕ) → at + l ≤ next → next + l * n ≤ most → at + l * suc n ≤ most
few_more l at next n most h i = omega arith

-- ---- one of many lines; the fuel is in the loop's invariant

module _ (f : Form) (s : List ℕ) where
  pub line_reaches : (at : ℕ) {x : Said f} {next : ℕ} → seen f s at ≡ found x next
      → (at + least f ≤ next) × (at < next) × (next ≤ length s)
  line_reaches at {x} {next} e = go (seen f s at) (looked s at f) e
    where
      go : (y : Seen (Said f)) → Look s at f y → y ≡ found x next → (at + least f ≤ next) × (at < next) × (next ≤ length s)
      go y i e = form_ahead f x (rw e at i)

  pub one_of_many : (fuel at : ℕ) {x : Said f} {next : ℕ} → seen f s at ≡ found x next → length s ≤ at + fuel
      → (left : ℕ) × (length s ≤ next + left) × (many_at f fuel s at ≡ x ∷ many_at f left s next)
      × (after_many f fuel s at ≡ after_many f left s next)
  unfolding many_at after_many
  one_of_many zero at e h = absurd (omega (arith, line_reaches at e))
  one_of_many (suc left) at e h = (left, omega (arith, line_reaches at e), rw e, rw e)

  pub none_of_many : (fuel at : ℕ) → seen f s at ≡ other
      → (many_at f fuel s at ≡ []) × (after_many f fuel s at ≡ at)
  unfolding many_at after_many
  none_of_many zero at e = (refl, refl)
  none_of_many (suc fuel) at e = (rw e, rw e)

  -- they fit into the text
  pub many_fit : (fuel at : ℕ) → at ≤ length s → at + least f * length (many_at f fuel s at) ≤ length s
  unfolding many_at
  many_fit zero at h = omega arith
  many_fit (suc fuel) at h = go (seen f s at) (looked s at f) (λ next. many_fit fuel next)
    where
      go : (y : Seen (Said f)) → Look s at f y
          → ((next : ℕ) → next ≤ length s → next + least f * length (many_at f fuel s next) ≤ length s)
          → at + least f * length (on_seen y (λ x next. x ∷ many_at f fuel s next) []) ≤ length s
      go (found x next) i r = let a = form_ahead f x i in few_more (least f) at next (length (many_at f fuel s next)) (length s) a.0 (r next a.2)
      go other n r = omega arith

  -- wherever they begin
  pub many_short : (fuel at : ℕ) → least f * length (many_at f fuel s at) ≤ length s
  unfolding many_at
  many_short zero at = omega arith
  many_short (suc fuel) at = go (seen f s at) (looked s at f)
    where
      go : (y : Seen (Said f)) → Look s at f y → least f * length (on_seen y (λ x next. x ∷ many_at f fuel s next) []) ≤ length s
      go (found x next) i =
          let a = form_ahead f x i in
          let h = few_more (least f) at next (length (many_at f fuel s next)) (length s) a.0 (many_fit fuel next a.2) in
          omega (arith, h)
      go other n = omega arith

-- ---- one block

module _ (f : Form) (g : Grammar) (s : List ℕ) (at n : ℕ) where
  pub read_line : {x : Said f} {next : ℕ} → seen f s at ≡ found x next
      → read_at (once f ∷ g) s at n ≡ also x (read_at g s next (n + 1))
  unfolding read_at
  read_line e = rw e

  pub read_other : seen f s at ≡ other → read_at (once f ∷ g) s at n ≡ stopped n
  unfolding read_at
  read_other e = rw e

  pub read_many : (xs : List (Said f)) (end : ℕ) → many_at f (length s) s at ≡ xs → after_many f (length s) s at ≡ end
      → read_at (often f ∷ g) s at n ≡ also xs (read_at g s end (n + length xs))
  unfolding read_at
  read_many xs end e h = rw (e, h)

  pub read_given : {x : Said f} {next : ℕ} → seen f s at ≡ found x next
      → read_at (perhaps f ∷ g) s at n ≡ also (some x) (read_at g s next (n + 1))
  unfolding read_at
  read_given e = rw e

  pub read_absent : seen f s at ≡ other → read_at (perhaps f ∷ g) s at n ≡ also nothing (read_at g s at n)
  unfolding read_at
  read_absent e = rw e

module _ (s : List ℕ) (at n : ℕ) where
  pub read_end : length s ≤ at → read_at [] s at n ≡ read tt
  unfolding read_at
  read_end h = rw (le-leb (length s) at h)

  pub read_more : at < length s → read_at [] s at n ≡ stopped n
  unfolding read_at
  read_more h = rw (lt-leb (length s) at h)
