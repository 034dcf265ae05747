-- One line: what is seen at an offset is what the bytes from there on begin with. Laws.
use Rattle.std.specs.Prelude.{ℕ, ◌+◌, ◌<◌, ◌≤◌, ◌≡◌, refl, ◌⊎◌, Bool, true, false, cond, List, [], ◌∷◌, ◌++◌, length, drop, leb}
use Rattle.std.proofs.Common.{sym, ap, ap₂, ◌∙◌, inl, inr, append_assoc, arith, length-append, drop-drop, ne_eqb, leb-true, leb-false}
use Rattle.std.proofs.Math.Seq.{drop-append_seam}
use Rattle.decimal.specs.Spans.{Spans}
use Rattle.grammar.specs.Newlines.{newlines}
use Rattle.grammar.specs.NewlineLaws.{newlines_append}
use Rattle.decimal.specs.SpansLaws.{spans_within}
use Rattle.grammar.specs.LineValues.{Field, Values, values_bytes, ValuesFit}
use Rattle.grammar.specs.Form.{Kind, named, Says, Saying, line_bytes, LineFits, bytes_said, Fits}
use Rattle.grammar.specs.Form.{Form, line, either, Said, saying}
use Rattle.grammar.specs.FewestBytes.{least_of, least}
use Rattle.grammar.specs.Clear.{word_number}
use Rattle.grammar.specs.Told.{Letters, Proper, Agree}
use Rattle.grammar.specs.Blocks.{Begins}
use Rattle.grammar.specs.TextReading.{on_seen, values_at, seen_kind, or_seen, seen}
use Rattle.grammar.specs.Read.{Seen, found, other}
use Rattle.grammar.proofs.LineValuesLaws.{WordValuesAre, word_values_are, word_values_read, values_long, newlines_values}
use Rattle.grammar.proofs.LineValuesLaws.{Begun, values_begun, word_once, fields_told}

-- ---- a line stands in a text, up to the offset `next`

pub record Stands (s : List ℕ) (at : ℕ) (m : Saying) (next : ℕ) : Type 0 where
  pub spans : Spans s at (bytes_said m) next
  pub fits : Fits m

-- ---- of every kind

-- it reaches ahead, within the text
pub tells_ahead : {s : List ℕ} {at next : ℕ} (k : Kind) (x : Says k) → Stands s at (k, x) next
    → (at + least_of k ≤ next) × (at < next) × (next ≤ length s)
tells_ahead (named w fs) x i =
    let l = length-append w (values_bytes fs x) in
    let b = values_long fs x in
    let t = spans_within (w ++ values_bytes fs x) (omega (arith, l, b)) i.spans in
    (omega (arith, l, b, i.spans.end), omega (arith, l, b, i.spans.end), t)

letters_newlines : (w : List ℕ) → Letters w → newlines w ≡ 0
unfolding newlines
letters_newlines [] i = refl
letters_newlines (b ∷ w) i = rw (ne_eqb b 10 (omega (arith, i.0)), letters_newlines w i.2)

-- it has one LF
pub one_newline : (k : Kind) (x : Says k) → Proper k → LineFits k x → newlines (line_bytes k x) ≡ 1
one_newline (named w fs) x p r =
    omega (arith, newlines_append w (values_bytes fs x), letters_newlines w p, newlines_values fs x)

-- and some bytes
tells_some : (k : Kind) (x : Says k) → LineFits k x → 1 ≤ length (line_bytes k x)
tells_some (named w fs) x r = omega (arith, length-append w (values_bytes fs x), values_long fs x)

-- a line that stands there, or none of the kind does
abbrev pub SeenKept : List ℕ → ℕ → (k : Kind) → Seen (Says k) → Type 0
SeenKept s at k (found x next) = Stands s at (k, x) next
SeenKept s at k other = (x : Says k) (next : ℕ) → Stands s at (k, x) next → ⊥

abbrev is_found : {A : Type 0} → Seen A → ℕ
is_found (found x next) = 1
is_found other = 0

pub kept : (s : List ℕ) (at : ℕ) (k : Kind) → SeenKept s at k (seen_kind k s at)
unfolding seen_kind
kept s at (named w fs) = go (values_at w fs s at) refl (word_values_are s w fs at)
  where
    go : (y : Seen (Values fs)) → values_at w fs s at ≡ y → WordValuesAre s w fs at y → SeenKept s at (named w fs) y
    go (found x next) e i = record { spans = i.0; fits = i.1 }
    go other e i = λ x next j.
        let z : ◌≡◌ {A = ℕ} 0 1 = ap is_found (sym e ∙ word_values_read w fs x j.spans j.fits) in
        absurd (omega arith)

pub stands_seen : {s : List ℕ} {at next : ℕ} (k : Kind) (x : Says k) → Stands s at (k, x) next
    → seen_kind k s at ≡ found x next
unfolding seen_kind
stands_seen (named w fs) x i = word_values_read w fs x i.spans i.fits

-- bytes that begin with a line
pub stands_of : {s : List ℕ} {at : ℕ} (m : Saying) (behind : List ℕ) → Fits m → drop at s ≡ bytes_said m ++ behind
    → Stands s at m (at + length (bytes_said m))
stands_of {s} {at} m behind r e = record { spans = record { text = rw later e; end = refl }; fits = r }
  where
    later : drop (at + length (bytes_said m)) s ≡ behind
    later = sym (drop-drop (length (bytes_said m)) at s) ∙ ap (drop (length (bytes_said m))) e
        ∙ drop-append_seam (bytes_said m) behind

-- ---- bytes begin with one line only

pub same_line : (k j : Kind) (x : Says k) (y : Says j) (a b : List ℕ) → Agree k j → Proper k → Proper j
    → LineFits k x → LineFits j y → line_bytes k x ++ a ≡ line_bytes j y ++ b → ◌≡◌ {A = Saying} (k, x) (j, y)
same_line (named w fs) (named v gs) x y a b g p o r q e =
    sym (ap say_of one) ∙ ap₂ (λ (u : List ℕ) (hs : List Field). on_seen (values_at u hs s 0) (λ z n. said' u hs z) (named w fs, x)) ew ef ∙ ap (λ (t : Seen (Values gs)). on_seen t (λ z n. said' v gs z) (named w fs, x)) two
  where
    s : List ℕ
    s = (w ++ values_bytes fs x) ++ a

    said' : (u : List ℕ) (hs : List Field) → Values hs → Saying
    said' u hs z = (named u hs, z)

    say_of : Seen (Values fs) → Saying
    say_of t = on_seen t (λ z n. said' w fs z) (named w fs, x)

    one : values_at w fs s 0 ≡ found x (0 + length (w ++ values_bytes fs x))
    one = let i = stands_of {s = s} {at = 0} (named w fs, x) a r refl in word_values_read w fs x i.spans i.fits

    two : values_at v gs s 0 ≡ found y (0 + length (v ++ values_bytes gs y))
    two = let i = stands_of {s = s} {at = 0} (named v gs, y) b q e in word_values_read v gs y i.spans i.fits

    c : Begun (values_bytes fs x)
    c = values_begun fs x

    d : Begun (values_bytes gs y)
    d = values_begun gs y

    ew : w ≡ v
    ew =
        word_once w v p o c.byte d.byte c.low d.low (c.others ++ a) (d.others ++ b)
        (sym (append_assoc w (c.byte ∷ c.others) a) ∙ ap (λ (l : List ℕ). (w ++ l) ++ a) (sym c.is) ∙ e
        ∙ ap (λ (l : List ℕ). (v ++ l) ++ b) d.is ∙ append_assoc v (d.byte ∷ d.others) b)

    ef : fs ≡ gs
    ef = fields_told fs gs (g (ap word_number ew))

pub same_rest : (bytes a b : List ℕ) → bytes ++ a ≡ bytes ++ b → a ≡ b
same_rest bytes a b e = sym (drop-append_seam bytes a) ∙ ap (drop (length bytes)) e ∙ drop-append_seam bytes b

-- and no bytes with none
pub some_bytes : (m : Saying) (a : List ℕ) → Fits m → [] ≡ bytes_said m ++ a → ⊥
some_bytes m a r e = omega (arith, ap length e, length-append (bytes_said m) a, tells_some m.0 m.1 r)

-- ---- forms

longer : (m n at next : ℕ) → (at + m ≤ next) ⊎ (at + n ≤ next) → at + cond (leb m n) m n ≤ next
longer m n at next h = go (leb m n) refl h
  where
    go : (b : Bool) → leb m n ≡ b → (at + m ≤ next) ⊎ (at + n ≤ next) → at + cond b m n ≤ next
    go true e (inl h) = h
    go true e (inr h) = omega (arith, leb-true m n e)
    go false e (inl h) = omega (arith, leb-false m n e)
    go false e (inr h) = h

pub form_ahead : {s : List ℕ} {at next : ℕ} (f : Form) (x : Said f) → Stands s at (saying f x) next
    → (at + least f ≤ next) × (at < next) × (next ≤ length s)
unfolding saying least
form_ahead (line k) x i = tells_ahead k x i
form_ahead {at = at} {next = next} (either f g) (inl x) i =
    let a = form_ahead f x i in
    (longer (least f) (least g) at next (inl a.0), a.1, a.2)
form_ahead {at = at} {next = next} (either f g) (inr x) i =
    let a = form_ahead g x i in
    (longer (least f) (least g) at next (inr a.0), a.1, a.2)

-- at an offset: a line of the form, or bytes that begin with none
module _ (s : List ℕ) (at : ℕ) where
  abbrev FormKept : (f : Form) → Seen (Said f) → Type 0
  FormKept f (found x next) = Stands s at (saying f x) next
  FormKept f other = (x : Said f) (next : ℕ) → Stands s at (saying f x) next → ⊥

  form_kept : (f : Form) → FormKept f (seen f s at)
  unfolding seen saying
  form_kept (line k) = go (seen_kind k s at) (kept s at k)
    where
      go : (y : Seen (Says k)) → SeenKept s at k y → FormKept (line k) y
      go (found x next) i = i
      go other i = i
  form_kept (either f g) = go (seen f s at) (seen g s at) (form_kept f) (form_kept g)
    where
      go : (y : Seen (Said f)) (z : Seen (Said g)) → FormKept f y → FormKept g z → FormKept (either f g) (or_seen y z)
      go (found x next) z i j = i
      go other (found x next) i j = j
      go other other i j = neither
        where
          neither : (x : Said (either f g)) (next : ℕ) → Stands s at (saying (either f g) x) next → ⊥
          neither (inl x) next r = i x next r
          neither (inr x) next r = j x next r

module _ (s : List ℕ) (at : ℕ) (f : Form) where
  abbrev pub Look : Seen (Said f) → Type 0
  Look (found x next) = Stands s at (saying f x) next
  Look other = Begins f (drop at s) → ⊥

  pub looked : Look (seen f s at)
  looked = go (seen f s at) (form_kept s at f)
    where
      go : (y : Seen (Said f)) → FormKept s at f y → Look y
      go (found x next) i = i
      go other n = λ b. n b.says _ (stands_of (saying f b.says) b.behind b.fits b.bytes)

-- what is seen of a kind is within 32 bits
pub seen_fits : (w : List ℕ) (fs : List Field) (s : List ℕ) (at : ℕ) {x : Values fs} {next : ℕ} → seen (line (named w fs)) s at ≡ found x next → ValuesFit fs x
unfolding saying
seen_fits w fs s at {x} {next} e = go (seen (line (named w fs)) s at) (looked s at (line (named w fs))) e
  where
    go : (y : Seen (Values fs)) → Look s at (line (named w fs)) y → y ≡ found x next → ValuesFit fs x
    go y i e = (rw e at i).fits
