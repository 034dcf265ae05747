-- BY CONTRACT: reading a text of any grammar, at offsets. `reading_is` says what it gives. Definitions.
use Rattle.std.specs.Prelude.{ℕ, zero, suc, ◌+◌, cond, ◌⊎◌, List, [], ◌∷◌, leb, length}
use Rattle.std.proofs.Common.{inl, inr}
use Rattle.std.proofs.Math.Option.{none as nothing, some}
use Rattle.grammar.specs.Size.{max_text}
use Rattle.decimal.specs.Word.{newline, word_at, on_found}
use Rattle.decimal.specs.Number.{field_at, on_number}
use Rattle.decimal.specs.Signed.{signed_field_at, on_signed}
use Rattle.grammar.specs.LineValues.{Field, number, signed, Value, Values}
use Rattle.grammar.specs.Form.{Kind, named, Form, line, either, Says, Said}
use Rattle.grammar.specs.Grammar.{once, often, perhaps, Grammar, Contents}
use Rattle.grammar.specs.Read.{Seen, found, other, Reading, read, stopped, long}

abbrev pub on_seen : {A B : Type 0} → Seen A → (A → ℕ → B) → B → B
on_seen (found x next) f b = f x next
on_seen other f b = b

abbrev pub or_seen : {A B : Type 0} → Seen A → Seen B → Seen (A ⊎ B)
or_seen (found x next) y = found (inl x) next
or_seen other (found y next) = found (inr y) next
or_seen other other = other

-- the values of fields and LF, from the offset p on
unfoldable pub value_at : (f : Field) → List ℕ → ℕ → Seen (Value f)
value_at number s p = on_number (field_at s p) found other
value_at signed s p = on_signed (signed_field_at s p) found other

unfoldable pub values_from : (fs : List Field) → List ℕ → ℕ → Seen (Values fs)
values_from [] s p = on_found (word_at newline s p) (λ next. found tt next) other
values_from (f ∷ fs) s p =
    on_seen (value_at f s p) (λ x e. on_seen (values_from fs s e) (λ xs next. found (x, xs) next) other) other

unfoldable pub values_at : List ℕ → (fs : List Field) → List ℕ → ℕ → Seen (Values fs)
values_at word fs s at = on_found (word_at word s at) (values_from fs s) other

-- the line at an offset, where one of a kind is asked for
unfoldable pub seen_kind : (k : Kind) → List ℕ → ℕ → Seen (Says k)
seen_kind (named word fs) s at = values_at word fs s at

unfoldable pub seen : (f : Form) → List ℕ → ℕ → Seen (Said f)
seen (line k) s at = seen_kind k s at
seen (either f g) s at = or_seen (seen f s at) (seen g s at)

-- the lines of a form from the offset `at` on, and the offset of the first line that is none; the text's length is
-- fuel enough
unfoldable pub many_at : (f : Form) → ℕ → List ℕ → ℕ → List (Said f)
many_at f zero s at = []
many_at f (suc fuel) s at = on_seen (seen f s at) (λ x next. x ∷ many_at f fuel s next) []

unfoldable pub after_many : Form → ℕ → List ℕ → ℕ → ℕ
after_many f zero s at = at
after_many f (suc fuel) s at = on_seen (seen f s at) (λ x next. after_many f fuel s next) at

abbrev pub also : {A B : Type 0} → A → Reading B → Reading (A × B)
also x (read c) = read (x, c)
also x (stopped n) = stopped n
also x long = long

-- from the offset `at` on, where line n begins
unfoldable pub read_at : (g : Grammar) → List ℕ → ℕ → ℕ → Reading (Contents g)
read_at [] s at n = cond (leb (length s) at) (read tt) (stopped n)
read_at (once f ∷ g) s at n = on_seen (seen f s at) (λ x next. also x (read_at g s next (n + 1))) (stopped n)
read_at (often f ∷ g) s at n =
    also (many_at f (length s) s at)
    (read_at g s (after_many f (length s) s at) (n + length (many_at f (length s) s at)))
read_at (perhaps f ∷ g) s at n =
    on_seen (seen f s at) (λ x next. also (some x) (read_at g s next (n + 1))) (also nothing (read_at g s at n))

unfoldable pub read_text : (g : Grammar) → List ℕ → Reading (Contents g)
read_text g s = cond (leb (length s) max_text) (read_at g s 0 1) long
